-- A table whose first entries are all alike. Assumes nothing.
use Rattle.std.specs.Prelude.{◌≡◌, ℕ, List, length, take, drop, replicate}

-- new is old with x in its first n entries
pub record Filled {X : Type 0} (n : ℕ) (x : X) (old new : List X) : Type 0 where
  pub front : take n new ≡ replicate n x
  pub back : drop n new ≡ drop n old
  pub long : length new ≡ length old
