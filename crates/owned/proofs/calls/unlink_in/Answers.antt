use Rattle.std.proofs.Common.{refl, ◌∙◌}
use Rattle.owned.proofs.Lent.{unlinked_by}
use Rattle.owned.proofs.calls.unlink_in.Goals as goal

pub returns-clause-unlinked : goal.returns-clause-unlinked
returns-clause-unlinked g c =
    let given = c.over-columns.ensures in
    let e = c.unlink_in-told.ensures.unlinked in
    unlinked_by c.over-columns.result c.unlink_in-told.new.t c.args.t.now _ (record { tables = given.tables; tally = given.rest.0; places = given.rest.1 })
    (record { tables = refl; tally = refl; places = e.room.graph.size ∙ given.rest.1 }) g.K.LabelKind.means c.unlink_in-told.new.list c.unlink_in-told.result c.args.u.0 c.args.v.0 e
