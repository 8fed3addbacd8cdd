use Rattle.std.proofs.Common.{◌≡◌, length, arith, rules}
use Rattle.links.specs.Table.{links}
use Rattle.order.proofs.Bytes.{restored_by}
use Rattle.order.proofs.Props.{opened}
use Rattle.recompute.proofs.Ends.{ends}
use Rattle.recompute.proofs.walk.recompute_lent.Goals as goal

pub returns-clause-recomputes : goal.returns-clause-recomputes
returns-clause-recomputes g c =
    let n = c.args.n in
    let ranks = c.args.rank_of.now in
    let places = c.args.place_at.now in
    let xs = links c.args.rows.now in
    let w = c.walk-climb.ensures in
    let list : length c.walk-climb.new.list ≡ length c.args.list.now = c.walk-climb.auto.list in
    ends g.K.LabelKind.means g.met.K.LabelKind.lawful.laws n c.args.own.now ranks places xs (opened n ranks places xs c.requires.ordered) c.args.e.0 c.args.labels.now c.requires.place
    c.walk-climb.result c.walk-climb.new.labels c.walk-climb.new.marks.bytes.now c.walk-climb.new.list (omega (arith, w.room, c.requires.sizes, list)) w.climbed

pub returns-clause-marks : goal.returns-clause-marks
returns-clause-marks g c =
    let r : c.drop-marked.new.self.0 ≡ c.args.marks.now =
    restored_by c.walk-climb.new.marks.n c.args.n c.args.marks.now c.walk-climb.new.marks.bytes.now _ (search rules) c.requires.clean c.walk-climb.ensures.beyond (search rules) c.drop-marked.ensures in
    search rules
