use Rattle.std.proofs.Common.{◌≡◌, length, refl, sym, ap, rules}
use Rattle.std.proofs.lemmas.List.{with_items_is}
use Rattle.links.specs.Table.{links}
use Rattle.tables.specs.Graph.{size, linked, ranks_of}
use Rattle.editing.proofs.Moves.{recomputes_at}
use Rattle.editing.proofs.recompute_from.Goals as goal

pub returns-clause-recomputes : goal.returns-clause-recomputes
returns-clause-recomputes g c =
    let t = c.args.t.now in
    let last = c.recompute_lent.new in
    let long : length last.labels ≡ t.tables.now.labels.len = search rules in
    recomputes_at g.K.LabelKind.means c.args.e.0 last.list c.recompute_lent.result (size t) (size t) c.as_slice.result.now t.tables.now.own.items (links c.as_slice-4.result.now) (linked t)
    c.as_slice-2.result.now (ranks_of t) c.as_mut_slice.result.now t.tables.now.labels.items last.labels _ refl c.as_slice.ensures.value (ap links c.as_slice-4.ensures.value) c.as_slice-2.ensures.value
    c.as_mut_slice.ensures.value (sym (with_items_is t.tables.now.labels last.labels long)) c.recompute_lent.ensures.recomputes
