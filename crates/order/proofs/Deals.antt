-- The step of a walk that gives out ranks. Assumes nothing.
use Rattle.std.proofs.Common.{◌≡◌, ℕ, zero, suc, ◌+◌, ◌-◌, ◌<◌, ◌≤◌, Bool, true, false, cond, not, ◌≢◌, List, [], ◌∷◌, ◌++◌, map, length, get_or, take, drop, set, filter, sym, refl, ap, ◌∙◌, subst, ⊎_elim, arith, length-drop, length-take, get_or-drop, get_or-set_other, get_or-take, get_or-set_same}
use mathlib.Core.Bool.{beq}
use lib.ListN.{length-map}
use Rattle.std.specs.List.{ContainsAt as Has}
use Rattle.std.proofs.lemmas.List.{map-set, get_or_append_left, get_or_push, length_push, append-nil}
use Rattle.std.proofs.lemmas.List.Elements.{filter_more}
use Rattle.std.proofs.ByRecursion.{has_get_or, has_push, has_append_left}
use Rattle.std.proofs.lemmas.Bool.{cases_lt}
use Rattle.std.proofs.lemmas.List.Filters.{length-filter_both}
use Rattle.paths.proofs.Lists.{has_kept}
use Rattle.common.specs.declared.number.Rank.{Rank}
use Rattle.common.specs.declared.number.PlaceNumber.{PlaceNumber}
use Rattle.order.specs.Tables.{rank_in, place_in, order_in}
use Rattle.order.specs.Sharing.{Apart, Below, met, Dealt}

abbrev number : Rank → ℕ
number r = r.0

pub rank_set_same : (ranks : List Rank) (p : ℕ) (x : Rank) → p < length ranks → rank_in (set ranks p x) p ≡ x.0
rank_set_same ranks p x h =
    let l : p < length (map number ranks) = rw (length-map ranks number) h in
    ap (λ (l : List ℕ). get_or l p 0) (map-set number ranks p x) ∙ get_or-set_same (map number ranks) p x.0 0 l

pub rank_set_other : (ranks : List Rank) (p q : ℕ) (x : Rank) → q ≢ p → rank_in (set ranks p x) q ≡ rank_in ranks q
rank_set_other ranks p q x ne = ap (λ (l : List ℕ). get_or l q 0) (map-set number ranks p x) ∙ get_or-set_other (map number ranks) p q x.0 0 ne

pub dealt_push : (ps : List ℕ) (start : ℕ) (old : ℕ → ℕ) (ranks : List Rank) → Dealt ps start old (rank_in ranks) → (p : ℕ) → (Has ps p → ⊥) → p < length ranks →
    (x : Rank) → x.0 ≡ start + length ps → Dealt (ps ++ (p ∷ [])) start old (rank_in (set ranks p x))
dealt_push ps start old ranks d p none in' x e =
    record {
      given = λ j h. ⊎_elim {C = rank_in (set ranks p x) (get_or (ps ++ (p ∷ [])) j 0) ≡ start + j}
          (λ l.
          let q : get_or (ps ++ (p ∷ [])) j 0 ≡ get_or ps j 0 = get_or_append_left ps (p ∷ []) 0 j l in
          let ne : get_or ps j 0 ≢ p = λ f. none (subst (Has ps) f (has_get_or ps j 0 l)) in
          ap (rank_in (set ranks p x)) q ∙ rank_set_other ranks p (get_or ps j 0) x ne ∙ d.given j l)
          (λ l.
          let len = length_push ps p in
          let s : length ps ≡ j = omega arith in
          ap (rank_in (set ranks p x)) (get_or_push ps p 0 j s) ∙ rank_set_same ranks p x in' ∙ e ∙ ap (λ (i : ℕ). start + i) s)
          (cases_lt j (length ps));
      kept = λ q h.
          rank_set_other ranks p q x (λ f. h (subst (Has (ps ++ (p ∷ []))) (sym f) (has_push ps p)))
          ∙ d.kept q (λ i. h (has_append_left ps (p ∷ []) q i));
    }

module _ (inside : Bool) (marked : ℕ → Bool) (low r n : ℕ) (order : List ℕ) (len : length order ≡ n) (l : low ≤ r) (h : r < n) where
  abbrev pub test : ℕ → Bool
  test p = cond inside (marked p) (not (marked p))

  met_more : met inside marked low (r + 1) order ≡ met inside marked low r order ++ cond (test (get_or order r 0)) (get_or order r 0 ∷ []) []
  met_more =
      let i = r - low in
      let a : (r + 1) - low ≡ (r - low) + 1 = omega arith in
      let b : low + (r - low) ≡ r = omega arith in
      let k = length-drop low order in
      let at : get_or (drop low order) (r - low) 0 ≡ get_or order r 0 = get_or-drop low order (r - low) 0 ∙ ap (λ (j : ℕ). get_or order j 0) b in
      let m = filter_more test (drop low order) (r - low) 0 (omega arith) in
      ap (λ (j : ℕ). filter test (take j (drop low order))) a ∙ m ∙ ap (λ (p : ℕ). met inside marked low r order ++ cond (test p) (p ∷ []) []) at

  pub met_take : test (get_or order r 0) ≡ true → met inside marked low (r + 1) order ≡ met inside marked low r order ++ (get_or order r 0 ∷ [])
  met_take e = met_more ∙ ap (λ (b : Bool). met inside marked low r order ++ cond b (get_or order r 0 ∷ []) []) e

  pub met_skip : test (get_or order r 0) ≡ false → met inside marked low (r + 1) order ≡ met inside marked low r order
  met_skip e = met_more ∙ ap (λ (b : Bool). met inside marked low r order ++ cond b (get_or order r 0 ∷ []) []) e ∙ append-nil _

  pub not_met : Apart n order → Has (met inside marked low r order) (get_or order r 0) → ⊥
  not_met apart i =
      let w = ((has_kept test (take (r - low) (drop low order)) (get_or order r 0)).0 i).0 in
      let k = w.0 in
      let a = length-take (r - low) (drop low order) in
      let b = length-drop low order in
      let c : get_or order (low + w.0) 0 ≡ get_or order r 0 = sym (get_or-drop low order w.0 0) ∙ sym (get_or-take (r - low) (drop low order) w.0 0 (omega arith)) ∙ w.2 0 in
      let f = apart (low + w.0) r (omega arith) h c in
      omega arith

-- only places of the order are met
pub met_below : (inside : Bool) (marked : ℕ → Bool) (low end n : ℕ) (order : List ℕ) → length order ≡ n → Below n order → (p : ℕ) → Has (met inside marked low end order) p → p < n
met_below inside marked low end n order len below p i =
    let w = ((has_kept (λ q. cond inside (marked q) (not (marked q))) (take (end - low) (drop low order)) p).0 i).0 in
    let a = length-take (end - low) (drop low order) in
    let b = length-drop low order in
    let c : get_or order (low + w.0) 0 ≡ p = sym (get_or-drop low order w.0 0) ∙ sym (get_or-take (end - low) (drop low order) w.0 0 (omega arith)) ∙ w.2 0 in
    subst (λ (q : ℕ). q < n) c (below (low + w.0) (omega arith))

pub met_length : (inside : Bool) (marked : ℕ → Bool) (low end : ℕ) (order : List ℕ) → length (met inside marked low end order) ≤ end - low
met_length inside marked low end order =
    let a = length-filter_both (λ p. cond inside (marked p) (not (marked p))) (λ p. not (cond inside (marked p) (not (marked p)))) (λ p. refl) (take (end - low) (drop low order)) in
    let b = length-take (end - low) (drop low order) in
    omega arith

pub same_test : (m inside : Bool) → beq m inside ≡ cond inside m (not m)
same_test true true = refl
same_test true false = refl
same_test false true = refl
same_test false false = refl

abbrev place_number : PlaceNumber → ℕ
place_number p = p.0

pub place_put : (places : List PlaceNumber) (r : ℕ) (x : PlaceNumber) → r < length places → place_in (set places r x) r ≡ x.0
place_put places r x h =
    let k : r < length (map place_number places) = rw (length-map places place_number) h in
    ap (λ (l : List ℕ). get_or l r 0) (map-set place_number places r x) ∙ get_or-set_same (map place_number places) r x.0 0 k

pub place_kept : (places : List PlaceNumber) (r q : ℕ) (x : PlaceNumber) → q ≢ r → place_in (set places r x) q ≡ place_in places q
place_kept places r q x ne = ap (λ (l : List ℕ). get_or l q 0) (map-set place_number places r x) ∙ get_or-set_other (map place_number places) r q x.0 0 ne

-- a table of which the first n entries were written has the others as they were
pub rest_kept : {A : Type 0} (f : A → ℕ) (xs all : List A) (n p : ℕ) → length xs ≡ n → n ≤ length all → n ≤ p → get_or (map f (xs ++ drop n all)) p 0 ≡ get_or (map f all) p 0
rest_kept f [] all zero p e l h = refl
rest_kept f [] all (suc n) p e l h = absurd (omega arith)
rest_kept f (x ∷ xs) all zero p e l h = absurd (omega arith)
rest_kept f (x ∷ xs) [] (suc n) p e l h = absurd (omega arith)
rest_kept f (x ∷ xs) (y ∷ ys) (suc n) zero e l h = absurd (omega arith)
rest_kept f (x ∷ xs) (y ∷ ys) (suc n) (suc p) e l h = rest_kept f xs ys n p (omega arith) (omega arith) (omega arith)

-- the places at the ranks from low to high
pub ranged : (places : List PlaceNumber) (low high : ℕ) → high < length places → length (take (high + 1 - low) (drop low places)) ≡ high + 1 - low
ranged places low high h =
    let a = length-take (high + 1 - low) (drop low places) in
    let b = length-drop low places in
    omega arith

pub in_range : (places : List PlaceNumber) (low high k : ℕ) → high < length places → k < length (take (high + 1 - low) (drop low places)) →
    (low + k < high + 1) × (get_or (take (high + 1 - low) (drop low places)) k (record { 0 = 0 }) ≡ get_or places (low + k) (record { 0 = 0 }))
in_range places low high k h l =
    let a = ranged places low high h in
    (omega arith, get_or-take (high + 1 - low) (drop low places) k (record { 0 = 0 }) (omega arith) ∙ get_or-drop low places k (record { 0 = 0 }))

pub order_at : (n : ℕ) (places : List PlaceNumber) (r : ℕ) → r < n → get_or (order_in n places) r 0 ≡ place_in places r
order_at n places r h = get_or-take n (map place_number places) r 0 h
