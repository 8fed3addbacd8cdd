use Rattle.std.proofs.Common.{◌<◌, arith}
use Rattle.std.proofs.lemmas.Bool.{both_ways}
use Rattle.tables.specs.Graph.{linked}
use Rattle.tables.proofs.Views.{is_linked, linked_by}
use Rattle.store.proofs.store.Store.is_linked.Goals as goal

pub returns-clause-yes : goal.returns-clause-yes
returns-clause-yes g c =
    let self = c.args.self.now in
    let some : 0 < self.n = omega (arith, c.requires) in
    λ e. linked_by g.K.LabelKind.means self.n (linked self.columns) some c.args.u.0 c.args.v.0 (c.is_linked.ensures.0 e)

pub returns-clause-no : goal.returns-clause-no
returns-clause-no g c =
    let self = c.args.self.now in
    let some : 0 < self.n = omega (arith, c.requires) in
    λ e h. both_ways c.is_linked.result e (c.is_linked.ensures.1 (is_linked g.K.LabelKind.means self.n (linked self.columns) some c.args.u.0 c.args.v.0 h))
