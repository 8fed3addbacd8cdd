use Rattle.std.proofs.Common.{ℕ, set, sym, ap, subst}
use Rattle.paths.specs.Walk.{Put}
use Rattle.recompute.specs.Tables.{value_in}
use Rattle.recompute.proofs.Rows.{put_set}
use Rattle.edits.proofs.replace_own.Goals as goal

pub returns : goal.returns
returns g c =
    let m = g.K.LabelKind.means in
    let n = c.args.n in
    let own = c.args.own.now in
    let row = c.to_row.result in
    let P : ℕ → Type 0 = λ i. Put (value_in m n own) (value_in m n (set own i row)) c.args.p.0 (m.value (m.stands row)) in
    let put = subst P (sym c.index.ensures) (put_set m n own c.args.p.0 row c.requires.place c.requires.sizes.0) in
    record {
      put = subst (Put (value_in m n own) (value_in m n (set own c.index.result row)) c.args.p.0) (ap m.value c.to_row.ensures) put;
      recomputes = c.recompute_lent.ensures.recomputes;
      marks = c.recompute_lent.ensures.marks;
      rest = c.recompute_lent.ensures.rest;
    }
