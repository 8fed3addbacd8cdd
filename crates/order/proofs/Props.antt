-- That tables are in order has one proof at most. Assumes nothing.
use Rattle.std.proofs.Common.{◌≡◌, ℕ, ◌^◌, ◌<◌, ◌≤◌, List, length, get_or}
use mathlib.Core.Logic.{∥∥₁_elim}
use denote.Struct.Props.{props}
use Rattle.common.specs.declared.number.PlaceNumber.{PlaceNumber}
use Rattle.common.specs.declared.number.Rank.{Rank}
use Rattle.paths.specs.Equations.{Topological}
use Rattle.paths.specs.Order.{Ranked}
use Rattle.links.specs.declared.row.Link.{Link}
use Rattle.order.specs.Tables.{rank_in, order_in, links_in, Inside, Sound, Ordered}

ranked_prop : (rank : ℕ → ℕ) (order : List ℕ) → IsProp (Ranked rank order)
ranked_prop rank order x y = λ i. record { at = a x.at y.at i; held = h x.held y.held i }
  where
    a : IsProp ((i : ℕ) → i < length order → rank (get_or order i 0) ≡ i)
    a = hlevel props

    h : IsProp ((p : ℕ) → p < length order → (rank p < length order) × (get_or order (rank p) 0 ≡ p))
    h = hlevel props

sound_prop : {R : Type 0} (n : ℕ) (ranks : List Rank) (places : List PlaceNumber) (links : List (Link R)) → IsProp (Sound n ranks places links)
sound_prop {R} n ranks places links x y = λ i. record {
  few = a x.few y.few i;
  long = b x.long y.long i;
  wide = c x.wide y.wide i;
  ranked = ranked_prop (rank_in ranks) (order_in n places) x.ranked y.ranked i;
  below = d x.below y.below i;
  inside = e x.inside y.inside i;
  rising = f x.rising y.rising i;
}
  where
    a : IsProp (n < 2 ^ 31)
    a = hlevel props

    b : IsProp (n ≤ length ranks)
    b = hlevel props

    c : IsProp (n ≤ length places)
    c = hlevel props

    d : IsProp ((r : ℕ) → r < n → get_or (order_in n places) r 0 < n)
    d = hlevel props

    e : IsProp (Inside n (links_in links))
    e = hlevel props

    f : IsProp (Topological (rank_in ranks) (links_in links))
    f = hlevel props

pub opened : {R : Type 0} (n : ℕ) (ranks : List Rank) (places : List PlaceNumber) (links : List (Link R)) → Ordered n ranks places links → Sound n ranks places links
opened n ranks places links t = ∥∥₁_elim t (sound_prop n ranks places links) (λ x. x)
