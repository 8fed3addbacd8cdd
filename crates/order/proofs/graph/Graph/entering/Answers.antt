use Rattle.links.specs.declared.row.Side.TheVariants.{Entering}
use Rattle.order.proofs.Graphs.{links_of_graph}
use Rattle.order.proofs.graph.Graph.entering.Goals as goal

pub returns : goal.returns
returns g c = links_of_graph c.args.self.now Entering _ c.args.p.0 _ c.entering.ensures
