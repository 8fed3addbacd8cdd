-- What a sorted thread says of the links. Assumes nothing.
use Rattle.std.proofs.Common.{◌≡◌, ℕ, suc, ◌<◌, ◌↔◌, Bool, true, false, cond, eqb, ltb, List, length, get_or, Some, None, Option, is_some, sym, refl, ap, ◌∙◌, subst, arith, eqb-true, eq-eqb, ltb-false, ltb-true}
use Rattle.std.specs.Bool.{then_some}
use borrow.Author.Tests.{both_ways}
use Rattle.links.specs.declared.row.Slot.{Slot}
use Rattle.links.specs.declared.row.LinkRow.{LinkRow}
use Rattle.links.specs.declared.row.Heads.{Heads}
use Rattle.links.specs.declared.row.Side.{Side}
use Rattle.links.specs.declared.row.Side.TheVariants.{Leaving, Entering}
use Rattle.links.specs.Threads.{Least, Sorted, Gap}
use Rattle.links.specs.declared.row.Link.{Link}
use Rattle.links.specs.Table.{Shape, at, hub, key, next, view, Sound, Leads, LinkFrom, linked, links, Lowest, Next, Found, slot_of, end_of, key_of, head_of, no_heads}
use Rattle.links.proofs.Held.{live_link, link_live}
use Rattle.links.proofs.Haves.{slot_having, of_slot}

pub end_by : {R : Type 0} (side : Side) (l : Link R) (x : Shape) → l.source.0 ≡ x.source → l.target.0 ≡ x.target → end_of side l ≡ hub side x
end_by Leaving l x e f = e
end_by Entering l x e f = f

pub key_by : {R : Type 0} (side : Side) (l : Link R) (x : Shape) → l.source.0 ≡ x.source → l.target.0 ≡ x.target → key_of side l ≡ key side x
key_by Leaving l x e f = f
key_by Entering l x e f = e

pub sorted_of : {R : Type 0} (side : Side) (rows : List (LinkRow R)) (heads : List Heads) (count free : ℕ) → Sound rows heads count free → Sorted (view side rows heads) (length heads)
sorted_of Leaving rows heads count free so = so.leaving
sorted_of Entering rows heads count free so = so.entering

pub least_lowest : {R : Type 0} (side : Side) (rows : List (LinkRow R)) (heads : List Heads) (p b s : ℕ) → Least (view side rows heads) p b s → Lowest side rows p b (slot_of (length rows) s)
least_lowest {R} side rows heads p b s least = go (ltb s (length rows)) refl
  where
    go : (t : Bool) → ltb s (length rows) ≡ t → Lowest side rows p b (cond t (Some (record { 0 = s })) None)
    go true e =
        let i = ltb-true s (length rows) e in
        let h = least.here i in
        let l = live_link rows s i h.0 in
        let k = key_by side l.0 (at rows s) l.2 l.3 in (
          l.0,
          (i, l.1, of_slot (linked rows) l.0 s l.1),
          end_by side l.0 (at rows s) l.2 l.3 ∙ h.1,
          omega (arith, h.2),
          λ m q f le.
              let r = slot_having (linked rows) m q in
              let j = r.0 in
              let w = link_live rows j m r.1 in
              let k' = key_by side m (at rows j) (sym w.2) (sym w.3) in
              let o = least.least j w.1 (sym (end_by side m (at rows j) (sym w.2) (sym w.3)) ∙ f) (omega arith) in
              omega (arith, o.1),
        )
    go false e =
        let i = ltb-false s (length rows) e in
        λ m q f le.
        let r = slot_having (linked rows) m q in
        let j = r.0 in
        let w = link_live rows j m r.1 in
        let k' = key_by side m (at rows j) (sym w.2) (sym w.3) in
        let o = least.least j w.1 (sym (end_by side m (at rows j) (sym w.2) (sym w.3)) ∙ f) (omega arith) in
        omega (arith, o.0)

-- the slot at which a thread begins
pub first_lowest : {R : Type 0} (side : Side) (rows : List (LinkRow R)) (heads : List Heads) (count free : ℕ) → Sound rows heads count free → (p s n : ℕ) (r : Option Slot) →
    p < length heads → s ≡ head_of side (get_or heads p no_heads) → n ≡ length rows → r ≡ slot_of n s → Lowest side rows p 0 r
first_lowest side rows heads count free so p s n r i is g q =
    subst (Lowest side rows p 0) (sym (q ∙ ap (λ k. slot_of k s) g ∙ ap (slot_of (length rows)) is)) (least_lowest side rows heads p 0 (head_of side (get_or heads p no_heads)) ((sorted_of side rows heads count free so).first p i))

-- the slot after a link
pub next_lowest : {R : Type 0} (side : Side) (rows : List (LinkRow R)) (heads : List Heads) (count free s : ℕ) → Sound rows heads count free → Next side rows s (slot_of (length rows) (next side (at rows s)))
next_lowest {R} side rows heads count free s so l q =
    let w = link_live rows s l q in
    let e = end_by side l (at rows s) (sym w.2) (sym w.3) in
    let k = key_by side l (at rows s) (sym w.2) (sym w.3) in
    let o = (sorted_of side rows heads count free so).later s w.1 in
    least_lowest side rows heads (end_of side l) (suc (key_of side l)) (next side (at rows s))
    (subst (λ c. Least (view side rows heads) (end_of side l) (suc c) (next side (at rows s))) (sym k) (subst (λ c. Least (view side rows heads) c (suc (key side (at rows s))) (next side (at rows s))) (sym e) o))

-- whether a thread begins at a slot is whether a link leaves the place
pub lowest_leaves : {R : Type 0} (rows : List (LinkRow R)) (p : ℕ) (r : Option Slot) → Lowest Leaving rows p 0 r → (is_some r ≡ true) ↔ ((v : ℕ) × Leads (links rows) p v)
lowest_leaves rows p None none = (λ q. absurd (both_ways false refl q), λ j. absurd (none j.1.0 j.1.1 j.1.2 (omega arith)))
lowest_leaves rows p (Some s) e = (λ _. (e.0.target.0, (e.0, e.1.2, e.2, refl)), λ _. refl)

pub found : {R : Type 0} (rows : List (LinkRow R)) (heads : List Heads) (u v prev s : ℕ) → Gap (view Leaving rows heads) u v prev s → s < length rows → (at rows s).target ≡ v → Found rows u v (Some (record { 0 = s }))
found rows heads u v prev s g i e =
    let h = g.way.least.here i in
    let l = live_link rows s i h.0 in
    (l.0, (i, l.1, of_slot (linked rows) l.0 s l.1), l.2 ∙ h.1, l.3 ∙ e)

pub not_found : {R : Type 0} (rows : List (LinkRow R)) (heads : List Heads) (u v prev s : ℕ) → Gap (view Leaving rows heads) u v prev s → (s < length rows → (at rows s).target ≡ v → ⊥) → Leads (links rows) u v → ⊥
not_found rows heads u v prev s g ne j =
    let r = slot_having (linked rows) j.0 j.1 in
    let w = link_live rows r.0 j.0 r.1 in
    let k : (at rows r.0).target ≡ v = w.3 ∙ j.3 in
    let m = g.way.least.least r.0 w.1 (w.2 ∙ j.2) (omega (arith, g.way.low)) in
    let h = g.high m.0 in
    ne m.0 (omega (arith, m.1))

-- the slot is found where its link leads to v
pub found_if : {R : Type 0} (rows : List (LinkRow R)) (heads : List Heads) (u v prev : ℕ) (s : Slot) (k : ℕ) (b : Bool) →
    Gap (view Leaving rows heads) u v prev s.0 → s.0 < length rows → k ≡ (at rows s.0).target → b ≡ eqb k v → Found rows u v (then_some b s)
found_if rows heads u v prev s k true g i t e = found rows heads u v prev s.0 g i (sym t ∙ eqb-true k v (sym e))
found_if rows heads u v prev s k false g i t e = not_found rows heads u v prev s.0 g (λ _ f. both_ways false refl (e ∙ eq-eqb k v (t ∙ f)))

-- whether a link was found is whether there is one
pub some_leads : {R : Type 0} (xs : List (Link R)) (u v : ℕ) (r : Option (Link R)) → LinkFrom xs u v r → (is_some r ≡ true) ↔ Leads xs u v
some_leads xs u v None none = (λ q. absurd (both_ways false refl q), λ j. absurd (none j))
some_leads xs u v (Some l) f = (λ _. (l, f.0, f.1, f.2), λ _. refl)
