use Rattle.order.proofs.Stays.{keeps_order}
use Rattle.order.proofs.graph.Graph.unlink_entering.Goals as goal

pub invariant_of-self-clause-ordered : goal.invariant_of-self-clause-ordered
invariant_of-self-clause-ordered g c = (keeps_order g.row.R.Denot).shuts _ _ _ _ _ c.args.p.0 c.args.self.now.ordered c.remove_entering.ensures.shut
