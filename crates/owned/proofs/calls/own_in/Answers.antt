use Rattle.std.proofs.Common.{refl, ◌∙◌}
use Rattle.owned.proofs.Lent.{owned_by}
use Rattle.owned.proofs.calls.own_in.Goals as goal

pub returns-clause-owned : goal.returns-clause-owned
returns-clause-owned g c =
    let m = g.K.LabelKind.means in
    let given = c.over-columns.ensures in
    let e = c.own_in.ensures.owned in
    owned_by c.over-columns.result c.own_in.new.t c.args.t.now _ (record { tables = given.tables; tally = given.rest.0; places = given.rest.1 })
    (record { tables = refl; tally = e.graph.links.2 ∙ given.rest.0; places = e.graph.size ∙ given.rest.1 }) m c.own_in.new.list c.own_in.result c.args.p.0 (m.value c.args.label) e
