use Rattle.std.proofs.Common.{◌<◌, arith}
use Rattle.std.proofs.lemmas.Bool.{both_ways}
use Rattle.tables.specs.Graph.{linked}
use Rattle.tables.proofs.Views.{leaves_in, leaves_by}
use Rattle.store.proofs.store.Store.has_leaving.Goals as goal

pub returns-clause-yes : goal.returns-clause-yes
returns-clause-yes g c =
    let self = c.args.self.now in
    let some : 0 < self.n = omega (arith, c.requires) in
    λ e. leaves_by g.K.LabelKind.means self.n (linked self.columns) some c.args.p.0 (c.has_leaving.ensures.0 e)

pub returns-clause-no : goal.returns-clause-no
returns-clause-no g c =
    let self = c.args.self.now in
    let some : 0 < self.n = omega (arith, c.requires) in
    λ e h. both_ways c.has_leaving.result e (c.has_leaving.ensures.1 (leaves_in g.K.LabelKind.means self.n (linked self.columns) some c.args.p.0 h))
