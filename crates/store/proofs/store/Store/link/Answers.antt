use Rattle.std.proofs.Common.{◌≡◌, ◌<◌, ◌≤◌, List, length, sym, refl, ap, ◌∙◌, subst, inl, inr, arith}
use Rattle.std.proofs.lemmas.Result.{MatchResult-weaker}
use Rattle.paths.specs.Ledger.{Link, Ledger, Leads}
use Rattle.paths.specs.Calls.{next}
use Rattle.paths.specs.Calls as ledger
use Rattle.paths.proofs.Calls.{link_edits}
use Rattle.links.specs.Table.{links, link}
use Rattle.links.specs.Theory.{Alike}
use Rattle.links.proofs.Ties.{follows}
use Rattle.law.specs.State.{Same}
use Rattle.law.proofs.Tables.{moves_rank}
use Rattle.order.specs.Admit.{Admitted}
use Rattle.order.specs.Tables.{order_in}
use Rattle.order.specs.Tables as table
use Rattle.tables.specs.Graph.{linked, ranks_of, order_of}
use Rattle.tables.proofs.Graphs.{sound_at}
use Rattle.order.proofs.Passages.{same_paths}
use Rattle.recompute.specs.Tables.{value_in, arrows_in, Recomputes}
use Rattle.recompute.proofs.Grounds.{rising}
use Rattle.tables.specs.Columns.{present_in, values_in}
use Rattle.tables.specs.View.{links_of}
use Rattle.store.specs.View.{permit_in, view}
use Rattle.tables.proofs.Views.{linked_by, links_are}
use Rattle.store.proofs.Edits.{settled, size, edited_through, same_by, alike_eq, elim_some, elim_low, elim_high}
use Rattle.store.proofs.store.Store.link.Goals as goal

pub link_in-requires-clause-fresh : goal.link_in-requires-clause-fresh
link_in-requires-clause-fresh g c =
    let self = c.args.self.now in
    λ h. c.is_linked.ensures.no c.if-is_linked.false (linked_by g.K.LabelKind.means self.n (linked self.columns) (elim_some self.n c.args.u.0 c.in_ok-ends.ensures.1.1.0) c.args.u.0 c.args.v.0 h)

pub returns-clause-told : goal.returns-clause-told
returns-clause-told g c =
    let m = g.K.LabelKind.means in
    let V = m.Value in
    let P = g.row.K-Passage.Denot in
    let k = m.kind in
    let self = c.args.self.now in
    let n = self.n in
    let old = self.columns in
    let new = c.link_in.new.t in
    let xs = linked old in
    let ys = linked new in
    let ranks = ranks_of old in
    let u = c.args.u.0 in
    let v = c.args.v.0 in
    let t = c.args.passage in
    let list = c.link_in.new.list in
    let steady = c.link_in.ensures.steady in
    let p = c.in_ok-ends.ensures in
    let some : 0 < self.n = elim_some self.n c.args.u.0 p.1.1.0 in
    let low : v < n = elim_low n v u p.1.1.0 in
    let high : u < n = elim_high n v u p.1.1.0 in
    let at = self.places in
    let unlinked = c.is_linked.ensures.no c.if-is_linked.false in
    let full : self.m ≤ length (links_of m n xs) → ⊥ = λ h. omega (arith, c.count.ensures, c.if-count-self.false) in
    let sound = sound_at old n at some in
    let sound' = sound_at new n (steady.room.graph.size ∙ at) some in
    let are : links_of m n xs ≡ arrows_in m xs = links_are m n xs some in
    let are' : links_of m n ys ≡ arrows_in m ys = links_are m n ys some in
    let before : Ledger V P = (view m self).ledger in
    let after : Ledger V P = record { present = present_in n new.tables.now.present.items; own = value_in m n new.tables.now.own.items; links = links_of m n ys } in
    let grown : Ledger V P = next k before (ledger.link u v t) in
    let was : Alike (arrows_in m xs) before.links = alike_eq (arrows_in m xs) before.links (sym are) in
    let paths = same_paths g.row.K-PassageRow.Denot P in
    MatchResult-weaker c.link_in.result c.link_in.ensures.told
    (λ counts e.
    let admitted = subst (λ k. Admitted k xs u v ranks (ranks_of new) (order_of old) (order_of new)) at e.ranks in
    let labels = subst (λ k. Recomputes m k old.tables.now.own.items ys (ranks_of new) v old.tables.now.labels.items new.tables.now.labels.items list counts) at e.labels in
    let alike : Alike (arrows_in m ys) grown.links =
    subst (λ (s : P). Alike (arrows_in m ys) (next k before (ledger.link u v s)).links) c.passage_to_row-row.ensures
    ((follows g.row.K-PassageRow.Denot V P).gains k before m.leads xs ys (link c.args.u c.args.v c.passage_to_row-row.result) e.gained was) in
    let same : Same after grown = same_by grown after (arrows_in m ys) (λ q. ap (λ w. present_in n w.items q) steady.present) (λ q. ap (λ w. value_in m n w.items q) steady.own) are' alike in
    let long = size m g.met.K.LabelKind.lawful.laws n old.tables.now.own.items xs ranks (order_of old) sound in
    record {
      passed = (p.0, (p.1.0, (p.1.1.0, (p.1.1.1.0, (unlinked, (full, (λ path. admitted.clear ((paths.paths m.leads xs before.links was v u).1 path), tt)))))));
      edits = record {
        does = record {
          places = refl;
          limit = refl;
          ledger = same;
          order = moves_rank (table.rank_in ranks) (order_in n (order_of old)) sound.ranked before.links u v (order_in n (order_of new)) (omega (arith, long)) (omega (arith, long))
              (λ h. ap (order_in n) (admitted.still h).1)
              (λ h. let r = (paths.moves m.leads xs before.links was (table.rank_in ranks) n u v (order_in n (order_of old)) (order_in n (order_of new))).0 (admitted.moves h) in
              (r.forward, (λ q b i. r.reached q (omega (arith, long)) i), r.order));
          permit = refl;
        };
        labels = λ joins.
            settled m g.met.K.LabelKind.lawful.laws n old.tables.now.own.items ys (ranks_of new) (order_of new) sound' before after (table.rank_in ranks)
            (λ a b s h. rising m n ranks xs sound.rising a b s (subst (λ (ls : List (Link P)). Leads ls a b s) are h))
            v low (λ q. ap (λ w. value_in m n w.items q) steady.own) are' (edited_through before grown after v (link_edits k before u v t) same)
            old.tables.now.labels.items new.tables.now.labels.items list counts labels joins;
      };
    })
    (λ e h.
    let i = h.1 in
    record {
      refused = inr (p.0, inr (p.1.0, inr (p.1.1.0, inr (p.1.1.1.0, inr (unlinked, inr (full, inl ((paths.paths m.leads xs before.links was v u).0 i.path, h.0)))))));
      same = λ j. record {
        places = self.n;
        limit = self.m;
        ledger = record { present = present_in n (steady.present j).items; own = values_in m n (steady.own j).items; links = links_of m n (links (i.graph.links.0 j).items) };
        label = values_in m n (i.labels j).items;
        order = order_in n (i.graph.ranks.1 j).items;
        permit = permit_in self.permit;
      };
    })
