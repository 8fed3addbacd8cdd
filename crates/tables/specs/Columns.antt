-- What a table says of each place. Assumes nothing.
use Rattle.std.specs.Prelude.{ℕ, Bool, false, List, map, take, slice_index_or}
use Rattle.kinds.specs.Meanings.{Meaning}

-- what a table says of each of its first n places, and d of every other number
abbrev pub column : {X Y : Type 0} → (X → Y) → Y → ℕ → List X → ℕ → Y
column f d n rows p = slice_index_or (map f (take n rows)) p d

-- which places are present
abbrev pub present_in : ℕ → List Bool → ℕ → Bool
present_in n flags = column (λ b. b) false n flags

-- the values that the rows of a table stand for
abbrev pub values_in : {K P R S : Type 0} (m : Meaning K P R S) → ℕ → List R → ℕ → m.Value
values_in m n rows = column (λ r. m.value (m.stands r)) m.kind.empty n rows
