-- What an edit reports and counts. Assumes nothing.
use Rattle.std.specs.Prelude.{◌≡◌, ℕ, ◌<◌, Bool, true, ◌⊎◌, ◌↔◌, List, length, slice_index}
use Rattle.std.specs.List.{ContainsAt as Has}
use Rattle.paths.specs.Ledger.{Ledger, Leads}

-- the label of p, the join over all paths into it, differs before and after
abbrev pub Changed : {V : Type 0} → (ℕ → V) → (ℕ → V) → ℕ → Type 0
Changed old new p = ¬ (new p ≡ old p)

-- p is the edited place, or after the edit a link leads to it from a changed one
abbrev pub Reported : {V P : Type 0} → Ledger V P → ℕ → (ℕ → V) → (ℕ → V) → ℕ → Type 0
Reported {V} {P} h e old new p = (p ≡ e) ⊎ ((q : ℕ) × (t : P) × Leads h.links q p t × Changed old new q)

-- the places stand in rising rank
abbrev pub Rising : (ℕ → ℕ) → List ℕ → Type 0
Rising rank ps = (i j : ℕ) → i < j → j < length ps → rank (slice_index ps i) < rank (slice_index ps j)

-- the list of the reported places, in rising rank, so each once
pub record IsReport {V P : Type 0} (h : Ledger V P) (e : ℕ) (old new : ℕ → V) (rank : ℕ → ℕ) (ps : List ℕ) : Type 0 where
  pub those : (p : ℕ) → Has ps p ↔ Reported h e old new p
  pub rising : Rising rank ps

-- a sameness test answers yes exactly for equal labels
abbrev pub Tells : {V : Type 0} → (V → V → Bool) → Type 0
Tells {V} same = (x y : V) → (same x y ≡ true) ↔ (x ≡ y)

-- no place stands twice
abbrev pub Distinct : List ℕ → Type 0
Distinct ps = (i j : ℕ) → i < j → j < length ps → ¬ (slice_index ps i ≡ slice_index ps j)

-- n places are so: they stand in a list, each once
pub record Number (Q : ℕ → Type 0) (n : ℕ) : Type 0 where
  pub all : List ℕ
  pub those : (p : ℕ) → Has all p ↔ Q p
  pub once : Distinct all
  pub size : length all ≡ n
