-- What a run is; the item at a place; what stands from a place on. Assumes nothing.
use Rattle.std.proofs.Common.{◌≡◌, ℕ, suc, ◌+◌, ◌-◌, ◌≤◌, cond, List, [], ◌∷◌, length, get_or, take, drop, sym, refl, ap, ◌∙◌, ⊎_elim, add-zero, arith, length-drop}
use Rattle.std.specs.List.{prefix_len, take_while}
use Rattle.std.proofs.lemmas.List.{drop_all, get_or-drop}
use Rattle.std.proofs.Math.Seq.{take-length}
use Rattle.std.proofs.lemmas.Bool.{cond-true, cond-false, cases_Bool, ne_eqb}
use Rattle.items.specs.Lex.{run, in_run, piece, piece_by, piece_of_run, no_item}

-- a run is the longest front of bytes that go on
pub run_is : (bs : List ℕ) → take_while in_run bs ≡ run bs
unfolding run
run_is [] = refl
run_is (b ∷ bs) =
    ⊎_elim
    (λ e.
    let n : cond (in_run b) (1 + prefix_len in_run bs) 0 ≡ suc (prefix_len in_run bs) = cond-true _ _ _ e ∙ omega arith in
    ap (λ k. take k (b ∷ bs)) n ∙ ap (λ l. b ∷ l) (run_is bs) ∙ sym (cond-true _ _ _ e))
    (λ e. ap (λ k. take k (b ∷ bs)) (cond-false _ _ _ e) ∙ sym (cond-false _ _ _ e))
    (cases_Bool (in_run b))

pub head : (xs : List ℕ) (i : ℕ) → get_or (drop i xs) 0 0 ≡ get_or xs i 0
head xs i = get_or-drop i xs 0 0 ∙ ap (λ n. get_or xs n 0) (add-zero i)

pub piece_at : (xs : List ℕ) (i b : ℕ) → get_or xs i 0 ≡ b → piece (drop i xs) ≡ piece_by b (run (drop i xs))
piece_at xs i b e = ap (λ n. piece_by n (run (drop i xs))) (head xs i ∙ e)

pub piece_rest : (xs : List ℕ) (i b : ℕ) → get_or xs i 0 ≡ b → (b ≡ 40 → ⊥) → (b ≡ 41 → ⊥) → (b ≡ 32 → ⊥) → (b ≡ 10 → ⊥) → piece (drop i xs) ≡ piece_of_run (run (drop i xs))
piece_rest xs i b e p q r s =
    piece_at xs i b e ∙ cond-false _ _ _ (ne_eqb b 40 p) ∙ cond-false _ _ _ (ne_eqb b 41 q) ∙ cond-false _ _ _ (ne_eqb b 32 r) ∙ cond-false _ _ _ (ne_eqb b 10 s)

-- no item begins past the end
pub past : (xs : List ℕ) (i : ℕ) → length xs ≤ i → piece (drop i xs) ≡ no_item
unfolding run
past xs i h = ap piece (drop_all i xs h)

-- what stands from a place on, as a slice has it
pub rest_is : (xs : List ℕ) (i : ℕ) → take (length xs - i) (drop i xs) ≡ drop i xs
rest_is xs i = ap (λ n. take n (drop i xs)) (sym (length-drop i xs)) ∙ take-length (drop i xs)

pub rest_at : (xs : List ℕ) (i k : ℕ) → i ≤ k → get_or (take (length xs - i) (drop i xs)) (k - i) 0 ≡ get_or xs k 0
rest_at xs i k h = ap (λ l. get_or l (k - i) 0) (rest_is xs i) ∙ get_or-drop i xs (k - i) 0 ∙ ap (λ n. get_or xs n 0) (omega arith)
