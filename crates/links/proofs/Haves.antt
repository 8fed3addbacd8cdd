-- Links and their slots. Assumes nothing.
use Rattle.std.proofs.Common.{◌≡◌, ℕ, zero, suc, List, [], ◌∷◌, get_or, Some, None, Option, ap, ⊎_elim}
use Rattle.std.specs.List.{ContainsAt as Has}
use Rattle.paths.proofs.Lists.{has_none, has_first, has_later, has_cases}
use Rattle.links.specs.Table.{somes}
use Rattle.links.proofs.Held.{none_some}

pub slot_having : {X : Type 0} (os : List (Option X)) (x : X) → Has (somes os) x → (k : ℕ) × (get_or os k None ≡ Some x)
slot_having [] x h = absurd (has_none x h)
slot_having (None ∷ os) x h = let r = slot_having os x h in (suc r.0, r.1)
slot_having {X} (Some y ∷ os) x h = ⊎_elim {C = (k : ℕ) × (get_or (Some y ∷ os) k None ≡ Some x)} (λ e. (0, ap {B = Option X} Some e)) (λ i. let r = slot_having os x i in (suc r.0, r.1)) (has_cases (somes os) y x h)

pub of_slot : {X : Type 0} (os : List (Option X)) (x : X) (k : ℕ) → get_or os k None ≡ Some x → Has (somes os) x
of_slot [] x k e = absurd (none_some x e)
of_slot (None ∷ os) x zero e = absurd (none_some x e)
of_slot (None ∷ os) x (suc k) e = of_slot os x k e
of_slot (Some y ∷ os) x zero e = let q : y ≡ x = cc in rw (← q) (has_first (somes os) y)
of_slot (Some y ∷ os) x (suc k) e = has_later (somes os) y x (of_slot os x k e)
