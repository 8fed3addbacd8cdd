use Rattle.links.proofs.Cursors.{lowest_leaves}
use Rattle.links.proofs.slices.leaves.Goals as goal

pub returns : goal.returns
returns g c = rw c.is_some.ensures (lowest_leaves c.args.rows.now c.args.p.0 c.first.result c.first.ensures)
