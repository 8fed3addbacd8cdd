-- The permit that is out. Assumes nothing.
use Rattle.std.specs.Prelude.{◌≡◌, ℕ, ◌<◌, Some, Option}
use Rattle.store.specs.declared.grant.Grant.{Grant}

-- a permit that is out is for one of the n places
abbrev pub HoldsPlace : Option Grant → ℕ → Type 0
HoldsPlace permit n = (g : Grant) → permit ≡ Some g → g.place.0 < n
