-- Ranks that are given out again. Assumes nothing.
use Rattle.std.specs.Prelude.{◌≡◌, ℕ, ◌+◌, ◌<◌, ◌≤◌, Bool, cond, not, List, length, filter, slice_index, slice_range}
use Rattle.std.specs.List.{ContainsAt as Has}

-- no place stands twice
abbrev pub Apart : ℕ → List ℕ → Type 0
Apart n order = (i j : ℕ) → i < n → j < n → slice_index order i ≡ slice_index order j → i ≡ j

abbrev pub Below : ℕ → List ℕ → Type 0
Below n order = (r : ℕ) → r < n → slice_index order r < n

-- the places from the rank low up to below the rank end that are marked, or those that are not
abbrev pub met : Bool → (ℕ → Bool) → ℕ → ℕ → List ℕ → List ℕ
met inside marked low end order = filter (λ p. cond inside (marked p) (not (marked p))) (slice_range order low end)

-- the places of the list have the ranks from start on, and every other place keeps its rank
pub record Dealt (ps : List ℕ) (start : ℕ) (old new : ℕ → ℕ) : Type 0 where
  pub given : (j : ℕ) → j < length ps → new (slice_index ps j) ≡ start + j
  pub kept : (p : ℕ) → (Has ps p → ⊥) → new p ≡ old p

-- every rank is below n, and no two places have one
abbrev pub RanksApart : ℕ → (ℕ → ℕ) → Type 0
RanksApart n rank = ((p : ℕ) → p < n → rank p < n) × ((p q : ℕ) → p < n → q < n → rank p ≡ rank q → p ≡ q)

-- the places at the ranks from low to high have these ranks, each one of them
pub record Shuffled (low high : ℕ) (rank place : ℕ → ℕ) : Type 0 where
  pub within : (i : ℕ) → low ≤ i → i ≤ high → (low ≤ rank (place i)) × (rank (place i) ≤ high)
  pub apart : (i j : ℕ) → low ≤ i → i ≤ high → low ≤ j → j ≤ high → rank (place i) ≡ rank (place j) → i ≡ j

-- the places at the ranks from low to high changed places among one another, and those below r stand at their ranks
pub record Settled (low high r : ℕ) (rank old new : ℕ → ℕ) : Type 0 where
  pub done : (i : ℕ) → low ≤ i → i < r → rank (new i) ≡ i
  pub from : (i : ℕ) → low ≤ i → i ≤ high → (j : ℕ) × (low ≤ j) × (j ≤ high) × (new i ≡ old j)
  pub below : (i : ℕ) → i < low → new i ≡ old i
  pub above : (i : ℕ) → high < i → new i ≡ old i
