-- A number as the set of its bits, at any width. Assumes nothing.
use Rattle.std.specs.Prelude.{ℕ, zero, suc, ◌/◌, ◌%◌, ◌^◌, Bool, true, not, ◌&&◌, ◌==◌}

-- whether the bit k of n is set
abbrev pub bit : ℕ → ℕ → Bool
bit n k = n / 2 ^ k % 2 == 1

-- whether a set has none of the numbers below n
unfoldable pub clear : ℕ → (ℕ → Bool) → Bool
clear zero v = true
clear (suc n) v = not (v n) && clear n v
