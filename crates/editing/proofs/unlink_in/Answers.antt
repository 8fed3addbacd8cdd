use Rattle.std.proofs.Common.{◌≡◌, ◌≤◌, List, length, refl, sym, ap, ◌∙◌, subst}
use Rattle.links.specs.declared.row.Link.{Link}
use Rattle.links.specs.Links.{Lost}
use Rattle.links.specs.Table.{links}
use Rattle.tables.specs.Graph.{size, linked, ranks_of}
use Rattle.tables.proofs.Graphs.{same_space, space_stays}
use Rattle.editing.proofs.Moves.{recomputes_at}
use Rattle.editing.proofs.unlink_in.Goals as goal

pub returns-clause-unlinked : goal.returns-clause-unlinked
returns-clause-unlinked g c =
    let S = g.row.K-PassageRow.Denot in
    let t = c.args.t.now in
    let mid = c.unlink.new.self in
    let made = c.recompute_from.new.t in
    let u = c.unlink.ensures in
    let e = c.recompute_from.ensures in
    let same = e.same in
    let graph = same.2 in
    let links : linked made ≡ linked mid = ap (λ v. links v.items) graph.links.0 in
    record {
      room = record {
        present = ap (λ v. v.len) (same.0 ∙ u.places.present);
        own = ap (λ v. v.len) (same.1 ∙ u.places.own);
        labels = e.long ∙ ap (λ v. v.len) u.places.labels;
        graph = space_stays t mid made u.space (same_space mid made graph);
        marks = e.marks ∙ ap (λ v. v.items) u.marks;
      };
      present = same.0 ∙ u.places.present;
      own = same.1 ∙ u.places.own;
      ranks = (graph.ranks.0 ∙ u.ranked.0, graph.ranks.1 ∙ u.ranked.1);
      lost = subst (λ (xs : List (Link S)). Lost (linked t) xs c.args.u.0 c.args.v.0) (sym links) u.lost;
      fewer = subst (λ (xs : List (Link S)). length xs ≤ length (linked t)) (sym links) u.fewer;
      labels = recomputes_at g.K.LabelKind.means c.args.v.0 c.recompute_from.new.list c.recompute_from.result (size mid) (size t) mid.tables.now.own.items t.tables.now.own.items (linked mid) (linked made) (ranks_of mid) (ranks_of made)
          mid.tables.now.labels.items t.tables.now.labels.items made.tables.now.labels.items made.tables.now.labels.items
          u.space.size (ap (λ v. v.items) u.places.own) (sym links) (sym (ap (λ v. v.items) graph.ranks.0)) (ap (λ v. v.items) u.places.labels) refl e.recomputes;
    }
