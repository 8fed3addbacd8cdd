use Rattle.links.proofs.Splices.{spliced_row}
use Rattle.links.proofs.Holding.{not_used}
use Rattle.links.proofs.threads.splice.Goals as goal

pub unreachable-requires : goal.unreachable-requires
unreachable-requires g c = not_used c.args.rows.now c.in-Some.q.0 c.in_default.ensures (rw c.in-Some.is at c.requires.behind).1

pub returns-in-Some-link_in : goal.returns-in-Some-link_in
returns-in-Some-link_in g c =
    let rows = c.args.rows.now in
    let heads = c.args.heads.now in
    let q = c.in-Some.q.0 in
    let link = c.in-Some-link_in.link in
    rw (c.in-Some.is, c.with.ensures) (spliced_row c.args.side rows heads q c.args.p.0 c.args.s link c.in-Some-link_in.rest c.in-Some-link_in.ensures)
