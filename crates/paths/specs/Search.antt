-- The forward set of a place, and the marks of a walk up the ranks that finds it. Assumes nothing.
use Rattle.std.specs.Prelude.{◌≡◌, ℕ, ◌<◌, ◌≤◌, Bool, true, false, ◌⊎◌, ◌↔◌, List}
use Rattle.paths.specs.Ledger.{Link, Leads, Path}

-- marked is the forward set of v up to u's rank: of the places of a rank at most u's, it has those to which a path leads from v
-- (links rise in rank, so such a path goes through ranks at most u's)
abbrev pub Forward : {P : Type 0} → List (Link P) → (ℕ → ℕ) → ℕ → ℕ → (ℕ → Bool) → Type 0
Forward links rank v u marked = (p : ℕ) → rank p ≤ rank u → (marked p ≡ true) ↔ Path links v p

-- p is v, or a link leads to p from a marked place
abbrev pub Met : {P : Type 0} → List (Link P) → ℕ → (ℕ → Bool) → ℕ → Type 0
Met {P} links v marked p = (p ≡ v) ⊎ ((q : ℕ) × (t : P) × Leads links q p t × (marked q ≡ true))

-- no place below v's rank is marked, and from there up to u's rank a place is marked exactly when it is v or a link leads to it from a marked one
pub record Marks {P : Type 0} (links : List (Link P)) (rank : ℕ → ℕ) (v u : ℕ) (marked : ℕ → Bool) : Type 0 where
  pub below : (p : ℕ) → rank p < rank v → marked p ≡ false
  pub within : (p : ℕ) → rank v ≤ rank p → rank p ≤ rank u → (marked p ≡ true) ↔ Met links v marked p
