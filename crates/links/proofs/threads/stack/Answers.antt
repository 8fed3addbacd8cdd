use Rattle.std.proofs.Common.{arith}
use Rattle.links.proofs.Clears.{stacked_more}
use Rattle.links.proofs.threads.stack.Goals as goal

pub loop-k-preserved : goal.loop-k-preserved
loop-k-preserved g c = stacked_more c.loop-k.rows c.loop-k.k _ c.loop-k.invariant (omega arith) c.saturating_sub.ensures
