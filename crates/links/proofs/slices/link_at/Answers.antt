use Rattle.links.proofs.Holding.{got}
use Rattle.links.proofs.Whole.{ends}
use Rattle.links.proofs.slices.link_at.Goals as goal

pub returns-in_err-link : goal.returns-in_err-link
returns-in_err-link g c = rw c.from_residual.ensures c.in_err-link.ensures

pub returns : goal.returns
returns g c =
    let rows = c.args.rows.now in
    let e = ends rows c.args.heads.now c.args.tally c.requires c.args.s.0 c.in_ok-link.link c.in_ok-link.field-0-1 c.in_ok-link.ensures in
    ((got rows c.args.s.0 c.in_ok-link.link c.in_ok-link.field-0-1 c.in_ok-link.ensures).link, e.0, e.1)
