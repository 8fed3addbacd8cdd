-- Marks that are lent on. Assumes nothing.
use Rattle.std.specs.Prelude.{◌≡◌}
use Rattle.order.specs.declared.marks.Marked.{Marked}

-- new are the same bytes as old, for as many places; what they hold may differ
abbrev pub SameLoan : Marked → Marked → Type 0
SameLoan old new = (new.n ≡ old.n) × (new.bytes.ghost_name ≡ old.bytes.ghost_name)
