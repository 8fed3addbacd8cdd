use Rattle.std.proofs.Common.{◌<◌, ◌≤◌, length, sym, ◌∙◌, subst, arith, rules}
use Rattle.links.specs.Table.{view, key, at, number_or}
use Rattle.links.specs.Threads.{Way}
use Rattle.links.proofs.Rows.{none_dead}
use Rattle.links.proofs.Holding.{got, not_used}
use Rattle.links.proofs.Walks.{way_start, way_on, way_falls}
use Rattle.links.proofs.threads.seek.Given.{Over}
use Rattle.links.proofs.threads.seek.Goals as goal

pub loop-link-init : goal.loop-link-init
loop-link-init g c =
    let side = c.args.side in
    let rows = c.args.rows.now in
    let heads = c.args.heads.now in
    let t = view side rows heads in
    let n = length rows in
    let p = c.args.p.0 in
    let end : n ≤ n = omega arith in
    record {
      way = subst (Way t p c.args.end.0 n) (sym c.head-at.ensures) (way_start t (length heads) p c.args.end.0 n c.requires.sorted c.requires.inside end (none_dead rows n end));
      behind = tt;
    }

-- the link at hand lies before the place sought
below : (g : Over) (c : goal.After-on-at g) → key c.args.side (at c.args.rows.now c.loop-link.at.0) < c.args.end.0
below g c =
    let k = (got c.args.rows.now c.loop-link.at.0 c.in-Some.link c.in-Some.rest c.in-Some.ensures).key c.args.side in
    let lt : c.other_end.result.0 < c.args.end.0 = search rules in
    omega (arith, c.other_end.ensures)

pub loop-link-smaller : goal.loop-link-smaller
loop-link-smaller g c =
    let rows = c.args.rows.now in
    let t = view c.args.side rows c.args.heads.now in
    let r = got rows c.loop-link.at.0 c.in-Some.link c.in-Some.rest c.in-Some.ensures in
    way_falls t c.args.p.0 c.args.end.0 (number_or (length rows) c.loop-link.prev) c.loop-link.at.0 r.here (below g c) c.loop-link.invariant.way

pub loop-link-preserved : goal.loop-link-preserved
loop-link-preserved g c =
    let side = c.args.side in
    let rows = c.args.rows.now in
    let heads = c.args.heads.now in
    let t = view side rows heads in
    let at = c.loop-link.at.0 in
    let r = got rows at c.in-Some.link c.in-Some.rest c.in-Some.ensures in
    record {
      way = subst (Way t c.args.p.0 c.args.end.0 at) (sym (c.on-at.ensures ∙ r.goes side))
          (way_on t (length heads) c.args.p.0 c.args.end.0 (number_or (length rows) c.loop-link.prev) at c.requires.sorted r.here (below g c) c.loop-link.invariant.way);
      behind = (r.here, r.live);
    }

pub returns-then-ge-clause-gap : goal.returns-then-ge-clause-gap
returns-then-ge-clause-gap g c =
    let le : c.args.end.0 ≤ c.other_end.result.0 = search rules in
    let r = got c.args.rows.now c.loop-link.at.0 c.in-Some.link c.in-Some.rest c.in-Some.ensures in
    record {
      way = c.loop-link.invariant.way;
      high = λ _. omega (arith, r.key c.args.side, c.other_end.ensures);
    }

pub returns-in_default-clause-gap : goal.returns-in_default-clause-gap
returns-in_default-clause-gap g c =
    let way = c.loop-link.invariant.way in
    record { way = way; high = λ i. absurd (not_used c.args.rows.now c.loop-link.at.0 c.in_default.ensures (way.least.here i).0) }
