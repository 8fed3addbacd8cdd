use Rattle.order.proofs.Stays.{keeps_order}
use Rattle.order.proofs.graph.Graph.unlink.Goals as goal

pub invariant_of-self-clause-ordered : goal.invariant_of-self-clause-ordered
invariant_of-self-clause-ordered g c = (keeps_order g.row.R.Denot).loses _ _ _ _ _ c.args.u.0 c.args.v.0 c.args.self.now.ordered c.remove.ensures.lost
