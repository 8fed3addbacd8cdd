use Rattle.tables.specs.Fill.{Filled}
use Rattle.tables.proofs.making.fill.Given as goal

abbrev pub invariant-loop-entry : goal.invariant-loop-entry
invariant-loop-entry g l = Filled l.entry-index l.x l.initial.entry-items l.entry-items
