use Rattle.std.proofs.Common.{◌≡◌, ◌<◌, length, get_or, sym, ap, ◌∙◌, subst, arith}
use Rattle.paths.specs.Ledger.{IsJoin}
use Rattle.tables.specs.Columns.{values_in}
use Rattle.store.specs.View.{view}
use Rattle.tables.proofs.Column.{column_at}
use Rattle.store.proofs.store.Store.label.Goals as goal

pub returns-clause-join : goal.returns-clause-join
returns-clause-join g c =
    let self = c.args.self.now in
    let means = g.K.LabelKind.means in
    let rows = self.columns.tables.now.labels.items in
    let p = c.args.p.0 in
    let low : c.args.p.0 < self.n = omega (arith, c.if-index-self.false, c.index.ensures) in
    let in' : c.args.p.0 < length self.columns.tables.now.labels.items = omega (arith, low, self.room.0.1.1, self.columns.tables.now.labels.ok.0) in
    let same : means.value c.from_row.result ≡ values_in means self.n rows p =
    ap means.value c.from_row.ensures ∙ ap (λ r. means.value (means.stands r)) (c.read.ensures ∙ ap (λ xs. get_or xs p c.read.result) c.deref.ensures.value) ∙ sym (column_at (λ r. means.value (means.stands r)) means.kind.empty self.n rows p c.read.result low in') in
    λ joins. subst (IsJoin means.kind (view means self).ledger p) (sym same) (joins p)
