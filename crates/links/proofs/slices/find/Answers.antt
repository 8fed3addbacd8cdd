use Rattle.links.proofs.Cursors.{found_if, not_found}
use Rattle.links.proofs.Holding.{got, not_used}
use Rattle.links.proofs.Props.{opened}
use Rattle.links.proofs.slices.find.Goals as goal

pub seek-spot-requires-clause-sorted : goal.seek-spot-requires-clause-sorted
seek-spot-requires-clause-sorted g c = (opened c.args.rows.now c.args.heads.now c.args.tally c.requires.sound).leaving

pub returns-in_err-link : goal.returns-in_err-link
returns-in_err-link g c =
    let rows = c.args.rows.now in
    let gap = c.seek-spot.ensures.gap in
    let at = c.seek-spot.result.at.0 in
    rw c.from_residual.ensures (not_found rows c.args.heads.now c.args.source.0 c.args.target.0 _ at gap (λ i _. not_used rows at c.in_err-link.ensures (gap.way.least.here i).0))

pub returns : goal.returns
returns g c =
    let rows = c.args.rows.now in
    let at = c.seek-spot.result.at in
    let r = got rows at.0 c.in_ok-link.link c.in_ok-link.field-0-1 c.in_ok-link.ensures in
    rw c.then_some.ensures (found_if rows c.args.heads.now c.args.source.0 c.args.target.0 _ at c.in_ok-link.link.target.0 c.eq.result c.seek-spot.ensures.gap r.here r.target c.eq.ensures)
