use Rattle.std.proofs.Common.{◌≡◌, ◌<◌, List, sym, refl, ap, ◌∙◌, subst}
use Rattle.paths.specs.Ledger.{Link, Ledger, Leads}
use Rattle.paths.specs.Calls.{next}
use Rattle.paths.specs.Calls as ledger
use Rattle.paths.proofs.Calls.{unlink_edits}
use Rattle.links.proofs.Ties.{follows}
use Rattle.law.specs.State.{Same}
use Rattle.order.specs.Tables.{order_in}
use Rattle.order.specs.Tables as table
use Rattle.tables.specs.Graph.{linked, ranks_of, order_of}
use Rattle.tables.proofs.Graphs.{sound_at}
use Rattle.recompute.specs.Tables.{value_in, arrows_in, Recomputes}
use Rattle.recompute.proofs.Grounds.{rising}
use Rattle.tables.specs.Columns.{present_in}
use Rattle.tables.specs.View.{links_of}
use Rattle.store.specs.View.{view}
use Rattle.tables.proofs.Views.{links_are}
use Rattle.store.proofs.Edits.{settled, edited_through, same_by, alike_eq, elim_some, elim_low}
use Rattle.store.proofs.store.Store.unlink.Goals as goal

pub returns-clause-told : goal.returns-clause-told
returns-clause-told g c =
    let m = g.K.LabelKind.means in
    let V = m.Value in
    let P = g.row.K-Passage.Denot in
    let k = m.kind in
    let self = c.args.self.now in
    let n = self.n in
    let old = self.columns in
    let new = c.unlink_in.new.t in
    let xs = linked old in
    let ys = linked new in
    let ranks = ranks_of new in
    let u = c.args.u.0 in
    let v = c.args.v.0 in
    let list = c.unlink_in.new.list in
    let counts = c.unlink_in.result in
    let e = c.unlink_in.ensures.unlinked in
    let p = c.in_ok-ends.ensures in
    let some : 0 < self.n = elim_some self.n c.args.u.0 p.1.1.0 in
    let low : v < n = elim_low n v u p.1.1.0 in
    let at = self.places in
    let sound = sound_at old n at some in
    let sound' = sound_at new n (e.room.graph.size ∙ at) some in
    let labels = subst (λ k. Recomputes m k old.tables.now.own.items ys ranks v old.tables.now.labels.items new.tables.now.labels.items list counts) at e.labels in
    let are : links_of m n xs ≡ arrows_in m xs = links_are m n xs some in
    let are' : links_of m n ys ≡ arrows_in m ys = links_are m n ys some in
    let order : order_in n (order_of new) ≡ order_in n (order_of old) = ap (λ v. order_in n v.items) e.ranks.1 in
    let before : Ledger V P = (view m self).ledger in
    let after : Ledger V P = record { present = present_in n new.tables.now.present.items; own = value_in m n new.tables.now.own.items; links = links_of m n ys } in
    let cut : Ledger V P = next k before (ledger.unlink u v) in
    let alike = (follows g.row.K-PassageRow.Denot V P).loses k before m.leads xs ys u v e.lost (alike_eq (arrows_in m xs) before.links (sym are)) in
    let same : Same after cut = same_by cut after (arrows_in m ys) (λ q. ap (λ w. present_in n w.items q) e.present) (λ q. ap (λ w. value_in m n w.items q) e.own) are' alike in
    record {
      passed = (p.0, (p.1.0, (p.1.1.0, (p.1.1.1.0, (λ none. none (c.is_linked.ensures.yes c.if-not-is_linked.false), tt)))));
      edits = record {
        does = record { places = refl; limit = refl; ledger = same; order = order; permit = refl };
        labels = λ joins.
            settled m g.met.K.LabelKind.lawful.laws n old.tables.now.own.items ys ranks (order_of new) sound' before after (table.rank_in (ranks_of old))
            (λ a b t h. rising m n (ranks_of old) xs sound.rising a b t (subst (λ (ls : List (Link P)). Leads ls a b t) are h))
            v low (λ q. ap (λ w. value_in m n w.items q) e.own) are' (edited_through before cut after v (unlink_edits k before u v) same)
            old.tables.now.labels.items new.tables.now.labels.items list counts labels joins;
      };
    }
