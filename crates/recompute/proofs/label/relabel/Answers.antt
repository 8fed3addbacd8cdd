use Rattle.std.proofs.Common.{◌≡◌, ℕ, true, set, sym, refl, ap, ◌∙◌, subst, arith}
use borrow.Author.Tests.{both_ways}
use Rattle.paths.specs.Walk.{Put}
use Rattle.recompute.specs.Lent.{size, linked}
use Rattle.recompute.specs.Tables.{value_in, gathered}
use Rattle.recompute.proofs.Rows.{value_read, put_set}
use Rattle.recompute.proofs.label.relabel.Goals as goal

pub returns : goal.returns
returns g c =
    let m = g.K.LabelKind.means in
    let labels = c.args.labels.now in
    let n = size c.args.graph.now in
    let p = c.args.p.0 in
    let read = value_read m n labels c.index.result c.index-labels-index.result (omega (arith, c.index.ensures, c.requires.place)) c.requires.sizes.1 c.index-labels-index.is ∙ ap (value_in m n labels) c.index.ensures in
    let new : m.value (m.stands c.to_row.result) ≡ gathered m n c.args.own.now labels (linked c.args.graph.now) p = ap m.value c.to_row.ensures ∙ c.gather-label.ensures in
    let put : Put (value_in m n labels) (value_in m n (set labels c.index-2.result c.to_row.result)) p (m.value (m.stands c.to_row.result)) =
    subst (λ (i : ℕ). Put (value_in m n labels) (value_in m n (set labels i c.to_row.result)) p (m.value (m.stands c.to_row.result))) (sym c.index-2.ensures)
    (put_set m n labels p c.to_row.result c.requires.place c.requires.sizes.1) in
    record {
      put = record { here = put.here ∙ new; other = put.other };
      changed = λ t e.
          let eq : m.value c.gather-label.result ≡ m.value c.from_row.result = c.gather-label.ensures ∙ sym new ∙ sym put.here ∙ e ∙ sym read ∙ ap m.value (sym c.from_row.ensures) in
          both_ways c.eq.result c.if-eq.false (c.eq.ensures ∙ g.met.K.LabelKind.tells.yes _ _ (g.met.K.LabelKind.lawful.one_value _ _ eq));
      kept = λ e. absurd (both_ways true e refl);
    }
