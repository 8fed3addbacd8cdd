use Rattle.links.specs.declared.row.Side.TheVariants.{Leaving}
use Rattle.recompute.proofs.Lents.{links_of_lent}
use Rattle.recompute.proofs.lent.LentGraph.leaving.Goals as goal

pub returns : goal.returns
returns g c = links_of_lent c.args.self.now Leaving _ c.args.p.0 _ c.links_at.ensures
