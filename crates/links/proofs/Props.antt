-- That a table is in order has one proof at most. Assumes nothing.
use Rattle.std.proofs.Common.{◌≡◌, ℕ, suc, ◌-◌, ◌<◌, ◌≤◌, List, length}
use mathlib.Core.Logic.{∥∥₁_elim}
use denote.Struct.Props.{props, ≡_prop}
use base.Stored.{coded_ℕ}
use Rattle.links.specs.declared.row.LinkRow.{LinkRow}
use Rattle.links.specs.declared.row.Heads.{Heads}
use Rattle.links.specs.declared.row.Tally.{Tally}
use Rattle.links.specs.declared.row.Side.{Side}
use Rattle.links.specs.declared.row.Side.TheVariants.{Leaving, Entering}
use Rattle.links.specs.Threads.{Threads, Least, Sorted, Single}
use Rattle.links.specs.Table.{at, view, links, Free, Climbing, Sound, Kept}

least_prop : (t : Threads) (p b s : ℕ) → IsProp (Least t p b s)
least_prop t p b s x y = λ i. record { here = h x.here y.here i; least = l x.least y.least i }
  where
    h : IsProp (s < t.cap → (t.dead s ≡ 0) × (t.hub s ≡ p) × (b ≤ t.key s))
    h = hlevel props

    l : IsProp ((j : ℕ) → t.dead j ≡ 0 → t.hub j ≡ p → b ≤ t.key j → (s < t.cap) × (t.key s ≤ t.key j))
    l = hlevel props

sorted_prop : (t : Threads) (n : ℕ) → IsProp (Sorted t n)
sorted_prop t n x y = λ i. record { first = f x.first y.first i; later = l x.later y.later i }
  where
    f : IsProp ((p : ℕ) → p < n → Least t p 0 (t.head p))
    f = hlevel (props, least_prop)

    l : IsProp ((k : ℕ) → t.dead k ≡ 0 → Least t (t.hub k) (suc (t.key k)) (t.next k))
    l = hlevel (props, least_prop)

single_prop : (t : Threads) → IsProp (Single t)
single_prop t x y = λ i. λ j k dj dk h e. ≡_prop coded_ℕ j k (x j k dj dk h e) (y j k dj dk h e) i

free_prop : (cap : ℕ) (dead down : ℕ → ℕ) (count free : ℕ) → IsProp (Free cap dead down count free)
free_prop cap dead down count free x y = λ i. record { within = a x.within y.within i; top = b x.top y.top i; depth = c x.depth y.depth i; under = d x.under y.under i; apart = e x.apart y.apart i }
  where
    a : IsProp (count ≤ cap)
    a = hlevel props

    b : IsProp (count < cap → (free < cap) × (dead free ≡ cap - count))
    b = hlevel props

    c : IsProp ((k : ℕ) → k < cap → dead k ≤ cap - count)
    c = hlevel props

    d : IsProp ((k : ℕ) → k < cap → 1 < dead k → (down k < cap) × (suc (dead (down k)) ≡ dead k))
    d = hlevel props

    e : IsProp ((j k : ℕ) → j < cap → k < cap → 0 < dead j → dead j ≡ dead k → j ≡ k)
    e = hlevel props

sound_prop : {R : Type 0} (rows : List (LinkRow R)) (heads : List Heads) (count free : ℕ) → IsProp (Sound rows heads count free)
sound_prop rows heads count free x y = λ i. record {
  inside = b x.inside y.inside i;
  leaving = sorted_prop (view Leaving rows heads) (length heads) x.leaving y.leaving i;
  entering = sorted_prop (view Entering rows heads) (length heads) x.entering y.entering i;
  single = single_prop (view Leaving rows heads) x.single y.single i;
  unused = free_prop (length rows) (λ k. (at rows k).unused) (λ k. (at rows k).leaving) count free x.unused y.unused i;
  counted = c x.counted y.counted i;
}
  where
    b : IsProp ((k : ℕ) → (at rows k).unused ≡ 0 → ((at rows k).source < length heads) × ((at rows k).target < length heads))
    b = hlevel props

    c : IsProp (length (links rows) ≡ count)
    c = hlevel props

pub climbing_prop : {R : Type 0} (side : Side) (rows : List (LinkRow R)) → IsProp (Climbing side rows)
climbing_prop side rows = hlevel props

pub opened : {R : Type 0} (rows : List (LinkRow R)) (heads : List Heads) (tally : Tally) → Kept rows heads tally → Sound rows heads tally.count tally.free.0
opened rows heads tally t = ∥∥₁_elim t (sound_prop rows heads tally.count tally.free.0) (λ x. x)
