-- The line around a byte of a text. Assumes nothing.
use Rattle.std.specs.Prelude.{◌≡◌, ℕ, ◌+◌, ◌-◌, ◌<◌, ◌≤◌, List, length, ◌≢◌, slice_index}

-- no newline among the bytes from a up to b
abbrev pub NoBreak : List ℕ → ℕ → ℕ → Type 0
NoBreak t a b = (k : ℕ) → a ≤ k → k < b → slice_index t k ≢ 10

-- the bytes from a up to b are the line, without its newline, that has the place i
pub record Line (t : List ℕ) (i a b : ℕ) : Type 0 where
  pub before : a ≤ i
  pub after : i ≤ b
  pub within : b ≤ length t
  pub unbroken : NoBreak t a b
  pub starts : 0 < a → slice_index t (a - 1) ≡ 10
  pub ends : b < length t → slice_index t b ≡ 10

-- the address, a block and an offset, k bytes on
abbrev pub moved : ℕ × ℕ → ℕ → ℕ × ℕ
moved p k = (p.0, p.1 + k)
