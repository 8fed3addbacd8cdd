-- A small kind that has the laws, and two examples worked out. Assumes nothing.
use Rattle.std.specs.Prelude.{◌≡◌, ℕ, min, max, Bool, [], ◌∷◌, nat_lt}
use Rattle.paths.specs.Kind.{Kind}
use Rattle.paths.specs.Ledger.{Link, Ledger, IsJoin, AreJoins}
use Rattle.paths.specs.Calls.{own, unlink, next}
use Rattle.paths.specs.Reports.{Changed, IsReport, Number}
use Rattle.paths.specs.Search.{Marks}
use Rattle.paths.specs.Order.{Ranked, upto, moved}

-- a label is a day or 0; the join is the later of two, and a passage caps by a day
abbrev pub latest : Kind ℕ ℕ
latest = record { empty = 0; join = max; carry = min }

abbrev pub arrow : ℕ → ℕ → ℕ → Link ℕ
arrow u v t = record { source = u; target = v; passage = t }

-- 0 leads by 1 and by 2 to 3, the link from 1 to 3 caps by 50, and every own label is empty
abbrev pub bare : Ledger ℕ ℕ
bare = record { present = λ p. nat_lt p 4; own = λ p. 0; links = arrow 0 1 900 ∷ arrow 0 2 900 ∷ arrow 1 3 50 ∷ arrow 2 3 900 ∷ [] }

-- the same once 0 has the own label 100
abbrev pub diamond : Ledger ℕ ℕ
diamond = next latest bare (own 0 100)

-- the label of 3 is the join of what both paths contribute, and without the link from 2 it is what one path contributes;
-- the edit that gave 0 its own label reports each place once, 3 too, and changes four
pub record FootOfDiamond : Type 0 where
  pub both : IsJoin latest diamond 3 100
  pub one : IsJoin latest (next latest diamond (unlink 2 3)) 3 50
  pub reported : (old new : ℕ → ℕ) → AreJoins latest bare old → AreJoins latest diamond new → IsReport diamond 0 old new (λ p. p) (0 ∷ 1 ∷ 2 ∷ 3 ∷ [])
  pub changed : (old new : ℕ → ℕ) → AreJoins latest bare old → AreJoins latest diamond new → Number (Changed old new) 4

-- six places of which 0 leads to 4 and 1 to 3: a link from 4 to 1 moves the ranks 1 to 4
abbrev pub SixPlaces : Type 0
SixPlaces =
    (marked : ℕ → Bool) → Marks (arrow 0 4 900 ∷ arrow 1 3 900 ∷ []) (λ p. p) 1 4 marked → (new : ℕ → ℕ) → Ranked new (moved marked 1 4 (upto 6)) →
    (new 0 ≡ 0) × (new 2 ≡ 1) × (new 4 ≡ 2) × (new 1 ≡ 3) × (new 3 ≡ 4) × (new 5 ≡ 5)
