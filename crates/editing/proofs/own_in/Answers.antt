use Rattle.std.proofs.Common.{◌≤◌, length, refl, sym, ap, ◌∙◌, subst, arith}
use Rattle.paths.specs.Walk.{Put}
use Rattle.recompute.specs.Tables.{value_in}
use Rattle.recompute.proofs.Rows.{put_set}
use Rattle.tables.specs.Graph.{size, linked, ranks_of, SameGraph}
use Rattle.tables.proofs.Graphs.{same_space}
use Rattle.editing.proofs.Moves.{recomputes_at}
use Rattle.editing.proofs.own_in.Goals as goal

pub returns-clause-owned : goal.returns-clause-owned
returns-clause-owned g c =
    let m = g.K.LabelKind.means in
    let t = c.args.t.now in
    let n = size t in
    let p = c.args.p.0 in
    let row = c.to_row.result in
    let made = c.recompute_from.new.t in
    let e = c.recompute_from.ensures in
    let same = e.same in
    let graph : SameGraph t made = record { size = same.2.size; ranks = same.2.ranks; links = same.2.links } in
    let own = t.tables.now.own.items in
    let long : n ≤ length own = omega (arith, t.rows.0, t.tables.now.own.ok.0) in
    let put : Put (value_in m n own) (value_in m n made.tables.now.own.items) p (m.value (m.stands row)) =
    subst (λ xs. Put (value_in m n own) (value_in m n xs) p (m.value (m.stands row))) (sym (ap (λ v. v.items) same.1 ∙ c.write.ensures.entry)) (put_set m n own p row c.requires.place long) in
    record {
      room = record {
        present = ap (λ v. v.len) same.0;
        own = ap (λ v. v.len) same.1 ∙ c.write.ensures.long;
        labels = e.long;
        graph = same_space t made graph;
        marks = e.marks;
      };
      present = same.0;
      graph = graph;
      own = subst (λ x. Put (value_in m n own) (value_in m n made.tables.now.own.items) p x) (ap m.value c.to_row.ensures) put;
      labels = recomputes_at m p c.recompute_from.new.list c.recompute_from.result n n _ made.tables.now.own.items (linked t) (linked t) (ranks_of t) (ranks_of t) t.tables.now.labels.items t.tables.now.labels.items made.tables.now.labels.items made.tables.now.labels.items
          refl (sym (ap (λ v. v.items) same.1)) refl refl refl refl e.recomputes;
    }
