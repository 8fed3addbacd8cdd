use Rattle.std.proofs.Common.{◌≡◌, ◌<◌, arith, rules}
use Rattle.links.specs.Table.{links as row_links}
use Rattle.order.specs.Tables.{rank_in}
use Rattle.order.proofs.Bytes.{restored_by}
use Rattle.order.proofs.Props.{opened}
use Rattle.order.proofs.Admits.{admitted_still}
use Rattle.order.proofs.search.admit.Goals as goal

pub rank_at-requires : goal.rank_at-requires
rank_at-requires g c =
    let long = (opened c.args.n c.args.rank_of.now c.args.place_at.now (row_links c.args.rows.now) c.requires.sound).long in
    omega (arith, c.requires.places.0)

pub rank_at-requires-2 : goal.rank_at-requires-2
rank_at-requires-2 g c =
    let long = (opened c.args.n c.args.rank_of.now c.args.place_at.now (row_links c.args.rows.now) c.requires.sound).long in
    omega (arith, c.requires.places.1)

pub returns-then-lt-clause-answer : goal.returns-then-lt-clause-answer
returns-then-lt-clause-answer g c =
    let ranks = c.args.rank_of.now in
    let s = opened c.args.n ranks c.args.place_at.now (row_links c.args.rows.now) c.requires.sound in
    let lt : c.rank_at.result.0 < c.rank_at-2.result.0 = search rules in
    let up : rank_in ranks c.args.u.0 < rank_in ranks c.args.v.0 = omega (arith, c.rank_at.ensures, c.rank_at-2.ensures) in
    admitted_still c.args.n ranks c.args.place_at.now (row_links c.args.rows.now) s c.args.u.0 c.args.v.0 c.requires.places.0 c.requires.places.1 up

pub reorder-requires-clause-sound : goal.reorder-requires-clause-sound
reorder-requires-clause-sound g c = opened c.args.n c.args.rank_of.now c.args.place_at.now (row_links c.args.rows.now) c.requires.sound

pub returns-clause-marks : goal.returns-clause-marks
returns-clause-marks g c =
    let r : c.drop-marked.new.self.0 ≡ c.args.marks.now =
    restored_by c.reorder.new.marks.n c.args.n c.args.marks.now c.reorder.new.marks.bytes.now _ c.reorder.ensures.same.0 c.requires.clean c.reorder.ensures.beyond (search rules) c.drop-marked.ensures in
    search rules
