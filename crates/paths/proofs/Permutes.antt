-- Orders in which each rank is held by one place, and that moving ranks leaves them so. Assumes nothing.
use Rattle.std.proofs.Common.{◌≡◌, ℕ, zero, suc, ◌+◌, ◌-◌, ◌<◌, ◌≤◌, Bool, true, false, cond, eqb, List, [], ◌∷◌, ◌++◌, length, get_or, take, drop, sym, refl, ap, ◌∙◌, subst, inl, inr, ⊎_elim, not-suc-le-zero, arith, length-append}
use Rattle.std.specs.List.{ContainsAt as Has}
use Rattle.std.proofs.lemmas.Bool.{cases_lt, eqb-true, eqb-false, eq-eqb, ne_eqb}
use Rattle.std.proofs.lemmas.List.{length_push, get_or_push, get_or_append_left}
use Rattle.std.proofs.ByRecursion.{has_get_or, has_push_cases}
use Rattle.paths.specs.Reports.{Rising}
use Rattle.paths.specs.Order.{Ranked, Before, upto, rank_in, shared_out, moved}
use Rattle.paths.proofs.Lists.{has_none, has_cases}
use Rattle.paths.proofs.Numbers.{once_le, rising_push}
use Rattle.paths.proofs.Walks.{rank_before, has_moved, once_moved, length_shared}
use Rattle.paths.proofs.Moves.{parts}

pub upto_length : (n : ℕ) → length (upto n) ≡ n
upto_length zero = refl
upto_length (suc n) = let e = upto_length n in let l = length_push (upto n) n in omega arith

upto_at : (n i : ℕ) → i < n → get_or (upto n) i 0 ≡ i
upto_at zero i l = absurd (not-suc-le-zero l)
upto_at (suc n) i l =
    let size = upto_length n in
    ⊎_elim {C = get_or (upto n ++ (n ∷ [])) i 0 ≡ i}
    (λ low. let in' : i < length (upto n) = omega arith in get_or_append_left (upto n) (n ∷ []) 0 i in' ∙ upto_at n i low)
    (λ high. let last : n ≡ i = omega arith in get_or_push (upto n) n 0 i (size ∙ last) ∙ last)
    (cases_lt i n)

pub first_ranked : (n : ℕ) → Ranked (λ p. p) (upto n)
first_ranked n = let size = upto_length n in record { at = λ i l. upto_at n i (omega arith); held = λ p l. (l, upto_at n p (omega arith)) }

upto_below : (n p : ℕ) → Has (upto n) p → p < n
upto_below n p h = let size = upto_length n in let e = upto_at n h.0 (omega arith) in let f = h.2 0 in omega arith

pub first_rising : (n : ℕ) → Rising (λ p. p) (upto n)
first_rising n i j l m = let size = upto_length n in let a = upto_at n i (omega arith) in let b = upto_at n j (omega arith) in omega arith

ranked_has : (rank : ℕ → ℕ) (order : List ℕ) → Ranked rank order → (p : ℕ) → p < length order → Has order p
ranked_has rank order r p l = let h = r.held p l in subst (Has order) h.1 (has_get_or order (rank p) 0 h.0)

-- the places of an order of n places are the first n
pub place_below : (rank : ℕ → ℕ) (order : List ℕ) → Ranked rank order → (i : ℕ) → i < length order → get_or order i 0 < length order
place_below rank order r i l = ⊎_elim {C = get_or order i 0 < length order} (λ low. low) (λ high. absurd (too_many high)) (cases_lt (get_or order i 0) (length order))
  where
    x : ℕ
    x = get_or order i 0

    up : length order ≤ x → Rising (λ p. p) (upto (length order) ++ (x ∷ []))
    up high = rising_push (λ p. p) (upto (length order)) x (first_rising (length order)) (λ p h. let q = upto_below (length order) p h in omega arith)

    stands : (p : ℕ) → Has (upto (length order) ++ (x ∷ [])) p → Has order p
    stands p h =
        ⊎_elim {C = Has order p} (λ a. ranked_has rank order r p (upto_below (length order) p a)) (λ e. subst (Has order) e (has_get_or order i 0 l))
        (has_push_cases (upto (length order)) x p h)

    too_many : length order ≤ x → ⊥
    too_many high =
        let most = once_le (upto (length order) ++ (x ∷ [])) order (λ a b c d e. let f = up high a b c d in omega arith) stands in
        let long = length_push (upto (length order)) x in
        let size = upto_length (length order) in
        omega arith

pub ranked_one : (order : List ℕ) (a b : ℕ → ℕ) → Ranked a order → Ranked b order → (p : ℕ) → p < length order → a p ≡ b p
ranked_one order a b r s p l = let h = r.held p l in sym (s.at (a p) h.0) ∙ ap b h.1

rank_at_lem : (order : List ℕ) → ((p : ℕ) → Before order p p → ⊥) → (i : ℕ) → i < length order → rank_in order (get_or order i 0) ≡ i
rank_at_lem [] once i l = absurd (not-suc-le-zero l)
rank_at_lem (x ∷ xs) once zero l = rw (eq-eqb x x refl)
rank_at_lem (x ∷ xs) once (suc i) l =
    let rest : rank_in xs (get_or xs i 0) ≡ i = rank_at_lem xs (λ p b. once p (inr b)) i (omega arith) in
    let other : eqb x (get_or xs i 0) ≡ false = ne_eqb x (get_or xs i 0) (λ e. once x (inl (refl, subst (Has xs) (sym e) (has_get_or xs i 0 (omega arith))))) in
    rw other (ap suc rest)

rank_held : (order : List ℕ) (p : ℕ) → Has order p → (rank_in order p < length order) × (get_or order (rank_in order p) 0 ≡ p)
rank_held [] p h = absurd (has_none p h)
rank_held (x ∷ xs) p h = go (λ i. rank_held xs p i) (eqb x p) refl
  where
    go : (Has xs p → (rank_in xs p < length xs) × (get_or xs (rank_in xs p) 0 ≡ p)) → (b : Bool) → eqb x p ≡ b →
        (cond b 0 (suc (rank_in xs p)) < suc (length xs)) × (get_or (x ∷ xs) (cond b 0 (suc (rank_in xs p))) 0 ≡ p)
    go rest true e = (omega arith, eqb-true x p e)
    go rest false e = let r = rest (⊎_elim {C = Has xs p} (λ q. absurd (eqb-false x p e q)) (λ m. m) (has_cases xs x p h)) in (omega arith, r.1)

-- where no place stands twice and each of the first places stands, the order has ranks
pub ranked_in : (order : List ℕ) → ((p : ℕ) → Before order p p → ⊥) → ((p : ℕ) → p < length order → Has order p) → Ranked (rank_in order) order
ranked_in order once all = record { at = rank_at_lem order once; held = λ p l. rank_held order p (all p l) }

module _ (rank : ℕ → ℕ) (order : List ℕ) (r : Ranked rank order) (marked : ℕ → Bool) (low high : ℕ) (le : low ≤ high) where
  walk : List ℕ
  walk = take (high + 1 - low) (drop low order)

  cut : order ≡ take low order ++ (walk ++ drop (high + 1) order)
  unfolding walk
  cut = parts order low (high + 1) (omega arith)

  pub length_moved : length (moved marked low high order) ≡ length order
  unfolding walk
  length_moved =
      let a = length-append (take low order) (shared_out marked walk ++ drop (high + 1) order) in
      let b = length-append (shared_out marked walk) (drop (high + 1) order) in
      let c = length_shared marked walk in
      let d = length-append (take low order) (walk ++ drop (high + 1) order) in
      let e = length-append walk (drop (high + 1) order) in
      let f = ap length cut in
      omega arith

  pub moved_ranked : (length (moved marked low high order) ≡ length order) × ((new : ℕ → ℕ) × Ranked new (moved marked low high order))
  unfolding walk
  moved_ranked = (length_moved, (rank_in (moved marked low high order), ranked_in (moved marked low high order) once all))
    where
      once : (p : ℕ) → Before (moved marked low high order) p p → ⊥
      once p b =
          let before : Before order p p = subst (λ o. Before o p p) (sym cut) (once_moved marked (take low order) walk (drop (high + 1) order) p b) in
          let l = rank_before rank order r p p before in
          omega arith

      all : (p : ℕ) → p < length (moved marked low high order) → Has (moved marked low high order) p
      all p l =
          let same = length_moved in
          let old : Has order p = ranked_has rank order r p (omega arith) in
          (has_moved marked (take low order) walk (drop (high + 1) order) p).0 (subst (λ o. Has o p) cut old)
