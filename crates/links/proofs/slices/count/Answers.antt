use Rattle.std.proofs.Common.{sym}
use Rattle.links.proofs.Props.{opened}
use Rattle.links.proofs.slices.count.Goals as goal

pub returns : goal.returns
returns g c = sym (opened c.args.rows.now c.args.heads.now c.args.tally c.requires).counted
