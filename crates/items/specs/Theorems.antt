-- What holds of numbers in texts. Assumes nothing.
use Rattle.std.specs.Prelude.{◌≡◌, ℕ, ◌<◌, true, ◌↔◌, List, decimal}
use Rattle.items.specs.Lex.{is_number, value_of}

-- a run is a number of the value n exactly when it is the decimal form of n, and n has at most five digits
abbrev pub NumberTells : Type 0
NumberTells = (r : List ℕ) (n : ℕ) → ((is_number r ≡ true) × (value_of r ≡ n)) ↔ ((n < 100000) × (r ≡ decimal n))
