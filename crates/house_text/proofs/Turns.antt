-- One turn of the writing of claims. Assumes nothing.
use Rattle.std.proofs.Common.{◌≡◌, ℕ, suc, ◌+◌, ◌-◌, ◌<◌, ◌≤◌, [], ◌∷◌, ◌++◌, decimal, sym, ap, ◌∙◌, ⊎_elim, arith}
use Rattle.std.proofs.lemmas.Bool.{cond-true, cond-false, cases_Bool}
use Rattle.house.specs.BitSets.{bit}
use Rattle.house_text.specs.ClaimsText.{claim_at, claims_from}
use Rattle.house_text.specs.ClaimsBack.{more_in, more_out}

one_more : (bits k m : ℕ) → claims_from bits k (suc m) ≡ claim_at bits k ++ claims_from bits (k + 1) m
one_more bits k m =
    ⊎_elim
    (λ e. more_in bits k m e ∙ ap (λ l. l ++ claims_from bits (k + 1) m) (sym (cond-true (bit bits k) (32 ∷ decimal k) [] e)))
    (λ e. more_out bits k m e ∙ ap (λ l. l ++ claims_from bits (k + 1) m) (sym (cond-false (bit bits k) (32 ∷ decimal k) [] e)))
    (cases_Bool (bit bits k))

-- the claims from k on are what stands for k, and those after it
pub claims_more : (bits k : ℕ) → k < 64 → claims_from bits k (64 - k) ≡ claim_at bits k ++ claims_from bits (k + 1) (64 - (k + 1))
claims_more bits k h = let e : 64 - k ≡ suc (64 - (k + 1)) = omega arith in ap (claims_from bits k) e ∙ one_more bits k (64 - (k + 1))

pub claims_done : (bits k : ℕ) → 64 ≤ k → [] ≡ claims_from bits k (64 - k)
unfolding claims_from
claims_done bits k h = let e : 0 ≡ 64 - k = omega arith in ap (claims_from bits k) e
