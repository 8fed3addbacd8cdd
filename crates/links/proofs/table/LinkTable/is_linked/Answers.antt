use Rattle.links.specs.LinkTable.{held}
use Rattle.links.proofs.Cursors.{some_leads}
use Rattle.links.proofs.table.LinkTable.is_linked.Goals as goal

pub returns : goal.returns
returns g c = rw c.is_some.ensures (some_leads (held c.args.self.now) c.args.source.0 c.args.target.0 c.get.result c.get.ensures)
