use Rattle.std.proofs.Common.{refl, ◌∙◌, subst}
use Rattle.links.specs.Table.{Leads, links, link}
use Rattle.owned.proofs.Lent.{told_by}
use Rattle.owned.proofs.calls.link_in.Goals as goal

pub link_in-told-requires-clause-fresh : goal.link_in-told-requires-clause-fresh
link_in-told-requires-clause-fresh g c = λ h. c.requires.fresh (subst (λ x. Leads (links x.links.items) c.args.u.0 c.args.v.0) c.over-columns.ensures.tables h)

pub returns-clause-told : goal.returns-clause-told
returns-clause-told g c =
    let given = c.over-columns.ensures in
    let e = c.link_in-told.ensures in
    told_by c.over-columns.result c.link_in-told.new.t c.args.t.now _ (record { tables = given.tables; tally = given.rest.0; places = given.rest.1 })
    (record { tables = refl; tally = refl; places = e.steady.room.graph.size ∙ given.rest.1 }) g.K.LabelKind.means (link c.args.u c.args.v c.args.row) c.link_in-told.new.list c.link_in-told.result e.told
