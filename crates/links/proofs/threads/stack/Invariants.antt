use Rattle.links.specs.Table.{Stacked}
use Rattle.links.proofs.threads.stack.Given as goal

abbrev pub invariant-loop-k : goal.invariant-loop-k
invariant-loop-k g l = Stacked l.rows l.k
