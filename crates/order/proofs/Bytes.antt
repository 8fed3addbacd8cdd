-- The mark bytes. Assumes nothing.
use Rattle.std.proofs.Common.{◌≡◌, ℕ, ◌<◌, true, eqb, List, length, get_or, sym, ap, ◌∙◌, subst, ⊎_elim, ext_get_or, eq-eqb}
use Rattle.std.proofs.lemmas.List.{get_or-take}
use Rattle.std.proofs.lemmas.Bool.{cases_lt}
use Rattle.order.specs.Tables.{is_set, marked_in}
use Rattle.order.specs.Marks.{Clean, Beyond, Cleared}

pub marked_is : (n : ℕ) (marks : List ℕ) (p : ℕ) → p < n → marked_in n marks p ≡ is_set marks p
marked_is n marks p h = ap (λ (x : ℕ). eqb x 1) (get_or-take n marks p 0 h)

pub is_marked_lem : (n : ℕ) (marks : List ℕ) (p : ℕ) → p < n → get_or marks p 0 ≡ 1 → marked_in n marks p ≡ true
is_marked_lem n marks p h e = marked_is n marks p h ∙ eq-eqb _ 1 e

-- ms differs from the clean xs below n alone, so that clearing it gives xs again
pub restored : (n : ℕ) (xs ms ys : List ℕ) → Clean n xs → Beyond n xs ms → length ms ≡ length xs → Cleared n ms ys → ys ≡ xs
restored n xs ms ys clean out len cl =
    ext_get_or 0 ys xs (cl.long ∙ len)
    (λ k h. ⊎_elim {C = get_or ys k 0 ≡ get_or xs k 0} (λ lt. cl.clean k lt ∙ sym (clean k lt)) (λ ge. cl.beyond k ge ∙ out k ge) (cases_lt k n))

-- the same, where the guard's own number of places is n
pub restored_by : (m n : ℕ) (xs ms ys : List ℕ) → m ≡ n → Clean n xs → Beyond n xs ms → length ms ≡ length xs → Cleared m ms ys → ys ≡ xs
restored_by m n xs ms ys e clean out len cl = restored n xs ms ys clean out len (subst (λ k. Cleared k ms ys) e cl)
