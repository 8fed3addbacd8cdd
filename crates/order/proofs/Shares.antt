-- The ranks that are given out again follow the order that the rule makes. Assumes nothing.
use Rattle.std.proofs.Common.{◌≡◌, ℕ, ◌+◌, ◌-◌, ◌<◌, ◌≤◌, Bool, true, false, not, ◌⊎◌, List, ◌++◌, length, get_or, take, drop, sym, refl, ap, ◌∙◌, subst, inl, inr, ⊎_elim, arith, length-append, length-drop, take-append-drop, length-take, get_or-drop, get_or-take, drop-drop, ext_get_or}
use borrow.Author.Tests.{both_ways}
use Rattle.std.specs.List.{ContainsAt as Has}
use Rattle.std.proofs.lemmas.List.{get_or_append_left, get_or-append_right, get_or_default}
use Rattle.std.proofs.ByRecursion.{has_get_or}
use Rattle.std.proofs.lemmas.Bool.{cases_lt}
use Rattle.paths.specs.Order.{Ranked, shared_out, moved}
use Rattle.paths.proofs.Lists.{has_kept}
use Rattle.paths.proofs.Walks.{has_moved, length_shared}
use Rattle.order.specs.Sharing.{Apart, Below, met, Dealt, RanksApart, Shuffled, Settled}

-- the places of the list have the ranks from s on
abbrev Runs : (ℕ → ℕ) → List ℕ → ℕ → Type 0
Runs rank xs s = (j : ℕ) → j < length xs → rank (get_or xs j 0) ≡ s + j

runs_append : (rank : ℕ → ℕ) (xs ys : List ℕ) (s t : ℕ) → s + length xs ≡ t → Runs rank xs s → Runs rank ys t → Runs rank (xs ++ ys) s
runs_append rank xs ys s t e a b j h =
    ⊎_elim {C = rank (get_or (xs ++ ys) j 0) ≡ s + j}
    (λ l. ap rank (get_or_append_left xs ys 0 j l) ∙ a j l)
    (λ l.
    let len = length-append xs ys in
    let k = b (j - length xs) (omega arith) in
    let f : t + (j - length xs) ≡ s + j = omega arith in
    ap rank (get_or-append_right xs ys (length xs) j 0 refl l) ∙ k ∙ f)
    (cases_lt j (length xs))

pub apart_from : (rank : ℕ → ℕ) (order : List ℕ) (n : ℕ) → length order ≡ n → Ranked rank order → Apart n order
apart_from rank order n len r i j a b e =
    let x = r.at i (omega arith) in
    let y = r.at j (omega arith) in
    sym x ∙ ap rank e ∙ y

parts : (order : List ℕ) (a b : ℕ) → a ≤ b → order ≡ take a order ++ (take (b - a) (drop a order) ++ drop b order)
parts order a b l =
    let same : b ≡ a + (b - a) = omega arith in
    let back : drop b order ≡ drop (b - a) (drop a order) = ap (λ (n : ℕ). drop n order) same ∙ sym (drop-drop (b - a) a order) in
    let rest : take (b - a) (drop a order) ++ drop b order ≡ drop a order = ap (λ (t : List ℕ). take (b - a) (drop a order) ++ t) back ∙ take-append-drop (b - a) (drop a order) in
    sym (ap (λ (t : List ℕ). take a order ++ t) rest ∙ take-append-drop a order)

module _ (rank : ℕ → ℕ) (order : List ℕ) (n : ℕ) (len : length order ≡ n) (r : Ranked rank order) (marked : ℕ → Bool) (low high : ℕ) (l : low ≤ high) (h : high < n) where
  abbrev walk : List ℕ
  walk = take (high + 1 - low) (drop low order)

  abbrev outer : List ℕ
  outer = met false marked low (high + 1) order

  abbrev inner : List ℕ
  inner = met true marked low (high + 1) order

  abbrev after : List ℕ
  after = moved marked low high order

  walk_length : length walk ≡ high + 1 - low
  walk_length = let a = length-take (high + 1 - low) (drop low order) in let b = length-drop low order in omega arith

  -- a place of the walk stands at a rank of it
  walk_at : (i : ℕ) → i < n → Has walk (get_or order i 0) → (low ≤ i) × (i ≤ high)
  walk_at i k w =
      let a = walk_length in
      let c : get_or order (low + w.0) 0 ≡ get_or order i 0 = sym (get_or-drop low order w.0 0) ∙ sym (get_or-take (high + 1 - low) (drop low order) w.0 0 (omega arith)) ∙ w.2 0 in
      let f = apart_from rank order n len r (low + w.0) i (omega arith) k c in
      (omega arith, omega arith)

  module _ (new₁ new₂ : ℕ → ℕ) (first : Dealt outer low rank new₁) (second : Dealt inner (low + length outer) new₁ new₂) where
    outside_kept : (p : ℕ) → (Has walk p → ⊥) → new₂ p ≡ rank p
    outside_kept p none =
        second.kept p (λ i. none ((has_kept _ walk p).0 i).0) ∙ first.kept p (λ i. none ((has_kept _ walk p).0 i).0)

    front_runs : Runs new₂ (take low order) 0
    front_runs j k =
        let a = length-take low order in
        let e : get_or (take low order) j 0 ≡ get_or order j 0 = get_or-take low order j 0 (omega arith) in
        let o = outside_kept (get_or order j 0) (λ w. let b = walk_at j (omega arith) w in omega arith) in
        let at = r.at j (omega arith) in
        ap new₂ e ∙ o ∙ at ∙ omega arith

    back_runs : Runs new₂ (drop (high + 1) order) (high + 1)
    back_runs j k =
        let a = length-drop (high + 1) order in
        let e : get_or (drop (high + 1) order) j 0 ≡ get_or order (high + 1 + j) 0 = get_or-drop (high + 1) order j 0 in
        let o = outside_kept (get_or order (high + 1 + j) 0) (λ w. let b = walk_at (high + 1 + j) (omega arith) w in omega arith) in
        ap new₂ e ∙ o ∙ r.at (high + 1 + j) (omega arith)

    pub outside_at : (j : ℕ) → j < n → (j < low) ⊎ (high < j) → new₂ (get_or order j 0) ≡ j
    outside_at j k o =
        outside_kept (get_or order j 0) (λ w. let b = walk_at j k w in ⊎_elim {C = ⊥} (λ a. omega (arith, b.0)) (λ a. omega (arith, b.1)) o) ∙ r.at j (omega arith)

    outer_runs : Runs new₂ outer low
    outer_runs j k =
        let p : ℕ = get_or outer j 0 in
        let no_mark = ((has_kept (λ q. not (marked q)) walk (get_or outer j 0)).0 (has_get_or outer j 0 k)).1 in
        second.kept (get_or outer j 0) (λ i. both_ways (not (marked (get_or outer j 0))) (ap not ((has_kept marked walk (get_or outer j 0)).0 i).1) no_mark) ∙ first.given j k

    pub after_runs : Runs new₂ after 0
    after_runs =
        let a : 0 + length (take low order) ≡ low = let b = length-take low order in omega arith in
        let s : length outer + length inner ≡ length walk = sym (length-append outer inner) ∙ length_shared marked walk in
        let t : low + length (outer ++ inner) ≡ high + 1 = let b = length-append outer inner in let c = walk_length in omega arith in
        runs_append new₂ (take low order) (shared_out marked walk ++ drop (high + 1) order) 0 low a front_runs
        (runs_append new₂ (outer ++ inner) (drop (high + 1) order) low (high + 1) t (runs_append new₂ outer inner low (low + length outer) refl outer_runs second.given) back_runs)

    has_after : (p : ℕ) → Has order p → Has after p
    has_after p i = (has_moved marked (take low order) walk (drop (high + 1) order) p).0 (subst (λ (o : List ℕ). Has o p) (parts order low (high + 1) (omega arith)) i)

    has_before : (p : ℕ) → Has after p → Has order p
    has_before p i = subst (λ (o : List ℕ). Has o p) (sym (parts order low (high + 1) (omega arith))) ((has_moved marked (take low order) walk (drop (high + 1) order) p).1 i)

    pub after_length : length after ≡ n
    after_length =
        let a = length-append (take low order) (shared_out marked walk ++ drop (high + 1) order) in
        let b = length-append (shared_out marked walk) (drop (high + 1) order) in
        let c = length_shared marked walk in
        let d = walk_length in
        let e = length-take low order in
        let f = length-drop (high + 1) order in
        omega arith

    pub after_below : Below n order → Below n after
    after_below below i k =
        let w = has_before (get_or after i 0) (has_get_or after i 0 (let e = after_length in omega arith)) in
        subst (λ (p : ℕ). p < n) (w.2 0) (below w.0 (omega arith))

    pub after_ranked : Ranked new₂ after
    after_ranked =
        record {
          at = λ i k. after_runs i k ∙ omega arith;
          held = λ p k.
              let e = after_length in
              let i = r.held p (omega arith) in
              let w = has_after p (rank p, i.0, λ d. get_or_default order (rank p) d 0 i.0 ∙ i.1) in
              let f : new₂ p ≡ w.0 = ap new₂ (sym (w.2 0)) ∙ after_runs w.0 w.1 ∙ omega arith in
              (omega arith, ap (λ (j : ℕ). get_or after j 0) f ∙ w.2 0);
        }

pub ranks_apart : (rank : ℕ → ℕ) (order : List ℕ) (n : ℕ) → length order ≡ n → Ranked rank order → RanksApart n rank
ranks_apart rank order n len r = (
  λ p k. let i = r.held p (omega arith) in omega arith,
  λ p q a b e. sym (r.held p (omega arith)).1 ∙ ap (λ (i : ℕ). get_or order i 0) e ∙ (r.held q (omega arith)).1,
)

-- what two walks that give out the ranks from low to high make
pub record Shared (new : ℕ → ℕ) (order after : List ℕ) (n low high : ℕ) : Type 0 where
  pub ranked : Ranked new after
  pub long : length after ≡ n
  pub below : Below n after
  pub outside : (j : ℕ) → j < n → (j < low) ⊎ (high < j) → new (get_or order j 0) ≡ j
  pub shuffled : (place : ℕ → ℕ) → ((i : ℕ) → i < n → get_or order i 0 ≡ place i) → Shuffled low high new place

pub shared : (rank : ℕ → ℕ) (order : List ℕ) (n : ℕ) → length order ≡ n → Ranked rank order → Below n order → (marked : ℕ → Bool) (low high : ℕ) → low ≤ high → high < n →
    (new₁ new₂ : ℕ → ℕ) (start : ℕ) → start ≡ low → Dealt (met false marked low (high + 1) order) start rank new₁ → (s : ℕ) → s ≡ start + length (met false marked low (high + 1) order) →
    Dealt (met true marked low (high + 1) order) s new₁ new₂ → Shared new₂ order (moved marked low high order) n low high
shared rank order n len r below marked low high l h new₁ new₂ start e first s f second =
    let first' = subst (λ (t : ℕ). Dealt (met false marked low (high + 1) order) t rank new₁) e first in
    let second' = subst (λ (t : ℕ). Dealt (met true marked low (high + 1) order) t new₁ new₂) (f ∙ ap (λ (t : ℕ). t + length (met false marked low (high + 1) order)) e) second in
    let ranked = after_ranked rank order n len r marked low high l h new₁ new₂ first' second' in
    let long = after_length rank order n len r marked low high l h new₁ new₂ first' second' in
    let one = ranks_apart new₂ _ n long ranked in
    let apart = apart_from rank order n len r in
    let outside = outside_at rank order n len r marked low high l h new₁ new₂ first' second' in
    record {
      ranked = ranked;
      long = long;
      below = after_below rank order n len r marked low high l h new₁ new₂ first' second' below;
      outside = outside;
      shuffled = λ place same. record {
        within = λ i a b.
            let p = get_or order i 0 in
            let in_p = below i (omega arith) in
            let k = one.0 (get_or order i 0) in_p in
            let other : (j : ℕ) → new₂ (get_or order i 0) ≡ j → (j < low) ⊎ (high < j) → i ≡ j = λ j q o.
            let in_j : j < n = omega arith in
            apart i j (omega arith) in_j (one.1 (get_or order i 0) (get_or order j 0) in_p (below j in_j) (q ∙ sym (outside j in_j o))) in
            let q = ap new₂ (same i (omega arith)) in
            subst (λ (p : ℕ). (low ≤ new₂ p) × (new₂ p ≤ high)) (same i (omega arith)) (
              ⊎_elim {C = low ≤ new₂ (get_or order i 0)} (λ o. let w = other _ refl (inl o) in absurd (omega arith)) (λ o. o) (cases_lt (new₂ (get_or order i 0)) low),
              ⊎_elim {C = new₂ (get_or order i 0) ≤ high} (λ o. let w = other _ refl (inr o) in absurd (omega arith)) (λ o. o) (cases_lt high (new₂ (get_or order i 0))),
            );
        apart = λ i j li hi lj hj q.
            let a : i < n = omega arith in
            let b : j < n = omega arith in
            apart i j a b (one.1 (get_or order i 0) (get_or order j 0) (below i a) (below j b) (ap new₂ (same i a) ∙ q ∙ sym (ap new₂ (same j b))));
      };
    }

-- once each place of the window stands at its rank, the places stand in the order of the rule
pub settled_is : (new : ℕ → ℕ) (order after : List ℕ) (n low high : ℕ) → Shared new order after n low high → Below n order → high < n → (old now : ℕ → ℕ) →
    ((i : ℕ) → i < n → get_or order i 0 ≡ old i) → Settled low high (high + 1) new old now → (order' : List ℕ) → length order' ≡ n → ((i : ℕ) → i < n → get_or order' i 0 ≡ now i) → order' ≡ after
settled_is new order after n low high sh below h old now same st order' len same' =
    let one = ranks_apart new after n sh.long sh.ranked in
    ext_get_or 0 order' after (len ∙ sym sh.long)
    (λ i k.
    let i_in : i < n = omega arith in
    let at = stands i i_in in
    one.1 (get_or order' i 0) (get_or after i 0) at.0 (sh.below i i_in) (at.1 ∙ sym (sh.ranked.at i (let l = sh.long in omega arith))))
  where
    stands : (i : ℕ) → i < n → (get_or order' i 0 < n) × (new (get_or order' i 0) ≡ i)
    stands i k = subst (λ (p : ℕ). (p < n) × (new p ≡ i)) (sym (same' i k)) (⊎_elim {C = (now i < n) × (new (now i) ≡ i)}
        (λ a. outer (inl a) (st.below i a))
        (λ a. ⊎_elim {C = (now i < n) × (new (now i) ≡ i)}
        (λ b. outer (inr b) (st.above i b))
        (λ b.
        let f = st.from i a b in
        let j_in : f.0 < n = omega (arith, f.2) in
        (subst (λ (p : ℕ). p < n) (same f.0 j_in ∙ sym f.3) (below f.0 j_in), st.done i a (omega arith)))
        (cases_lt high i))
        (cases_lt i low))
      where
        outer : (i < low) ⊎ (high < i) → now i ≡ old i → (now i < n) × (new (now i) ≡ i)
        outer o e = subst (λ (p : ℕ). (p < n) × (new p ≡ i)) (same i k ∙ sym e) (below i k, sh.outside i k o)
