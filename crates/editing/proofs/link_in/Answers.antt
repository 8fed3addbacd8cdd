use Rattle.std.proofs.Common.{◌≡◌, List, refl, sym, ap, subst}
use Rattle.common.specs.declared.number.PlaceNumber.{PlaceNumber}
use Rattle.common.specs.declared.number.Rank.{Rank}
use Rattle.links.specs.declared.row.Link.{Link}
use Rattle.links.specs.Links.{Gained}
use Rattle.links.specs.Table.{links, link}
use Rattle.order.specs.Admit.{Admitted}
use Rattle.tables.specs.Graph.{size, linked, ranks_of, order_of}
use Rattle.editing.proofs.Moves.{recomputes_at}
use Rattle.editing.proofs.link_in.Goals as goal

pub returns-clause-told : goal.returns-clause-told
returns-clause-told g c =
    let S = g.row.K-PassageRow.Denot in
    let t = c.args.t.now in
    let mid = c.link.new.self in
    let made = c.recompute_from.new.t in
    let k = c.link.ensures in
    let in' = c.in_ok-link.ensures in
    let e = c.recompute_from.ensures in
    let graph = e.same.2 in
    let links : linked made ≡ linked mid = ap (λ v. links v.items) graph.links.0 in
    let ranks : ranks_of made ≡ ranks_of mid = ap (λ v. v.items) graph.ranks.0 in
    let order : order_of made ≡ order_of mid = ap (λ v. v.items) graph.ranks.1 in
    let u = c.args.u.0 in
    let v = c.args.v.0 in
    record {
      gained = subst (λ (xs : List (Link S)). Gained (linked t) xs (link c.args.u c.args.v c.args.row)) (sym links) in'.links;
      ranks = subst (λ (ps : List PlaceNumber). Admitted (size t) (linked t) u v (ranks_of t) (ranks_of made) (order_of t) ps) (sym order)
          (subst (λ (rs : List Rank). Admitted (size t) (linked t) u v (ranks_of t) rs (order_of t) (order_of mid)) (sym ranks) in'.ranks);
      labels = recomputes_at g.K.LabelKind.means v c.recompute_from.new.list c.recompute_from.result (size mid) (size t) mid.tables.now.own.items t.tables.now.own.items (linked mid) (linked made) (ranks_of mid) (ranks_of made)
          mid.tables.now.labels.items t.tables.now.labels.items made.tables.now.labels.items made.tables.now.labels.items
          k.space.size (ap (λ v. v.items) k.places.own) (sym links) (sym ranks) (ap (λ v. v.items) k.places.labels) refl e.recomputes;
    }
