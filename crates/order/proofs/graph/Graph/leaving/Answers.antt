use Rattle.links.specs.declared.row.Side.TheVariants.{Leaving}
use Rattle.order.proofs.Graphs.{links_of_graph}
use Rattle.order.proofs.graph.Graph.leaving.Goals as goal

pub returns : goal.returns
returns g c = links_of_graph c.args.self.now Leaving _ c.args.p.0 _ c.leaving.ensures
