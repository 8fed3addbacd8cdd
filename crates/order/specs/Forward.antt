-- The marks of a walk up the ranks. Assumes nothing.
use Rattle.std.specs.Prelude.{◌≡◌, ℕ, ◌<◌, ◌≤◌, Bool, true, false, ◌↔◌, List}
use Rattle.paths.specs.Ledger.{Link, Path}

-- below the rank r a place is marked exactly when a path leads to it from v, and from there on none is
pub record Reached {P : Type 0} (links : List (Link P)) (rank : ℕ → ℕ) (n v r : ℕ) (marked : ℕ → Bool) : Type 0 where
  pub met : (p : ℕ) → p < n → rank p < r → (marked p ≡ true) ↔ Path links v p
  pub ahead : (p : ℕ) → p < n → r ≤ rank p → marked p ≡ false
