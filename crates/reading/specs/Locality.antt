-- What is read, or its fault, follows from the rest of the line alone. Assumes nothing.
use Rattle.std.specs.Prelude.{◌≡◌, ℕ, List, [], ◌∷◌, ◌++◌, ◌≢◌}
use Rattle.reading.specs.Reading.{Out, ok, bad, Read}

-- no newline
abbrev pub Unbroken : List ℕ → Type 0
Unbroken [] = Unit {0}
Unbroken (b ∷ bs) = (b ≢ 10) × Unbroken bs

-- r and s stand at one place of one line, before x and y
abbrev pub Aligned : List ℕ → List ℕ → List ℕ → List ℕ → Type 0
Aligned x y r s = (cs : List ℕ) × Unbroken cs × (r ≡ cs ++ 10 ∷ x) × (s ≡ cs ++ 10 ∷ y)

abbrev pub Alike : {X : Type 0} → List ℕ → List ℕ → Out X → Out X → Type 0
Alike x y (ok a r) (ok b s) = (a ≡ b) × Aligned x y r s
Alike x y (ok a r) (bad g s) = ⊥
Alike x y (bad f r) (ok b s) = ⊥
Alike x y (bad f r) (bad g s) = (f ≡ g) × Aligned x y r s

-- whatever follows the line
abbrev pub Local : {X : Type 0} → Read X → Type 0
Local r = (bs x y : List ℕ) → Unbroken bs → Alike x y (r (bs ++ 10 ∷ x)) (r (bs ++ 10 ∷ y))
