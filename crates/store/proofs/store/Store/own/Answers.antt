use Rattle.std.proofs.Common.{◌≡◌, ℕ, ◌<◌, List, length, take, filter, sym, refl, ap, ◌∙◌, subst, arith}
use Rattle.std.proofs.lemmas.Bool.{both_ways}
use Rattle.paths.specs.Ledger.{Link, Ledger, Leads}
use Rattle.paths.specs.Order.{rank_in}
use Rattle.paths.specs.Walk.{Put, Recomputed}
use Rattle.law.specs.Calls.{is_out}
use Rattle.links.specs.Table.{links as links_in}
use Rattle.order.specs.Tables.{order_in}
use Rattle.order.specs.Tables as table
use Rattle.tables.specs.Graph.{linked, ranks_of, order_of}
use Rattle.tables.proofs.Graphs.{sound_at}
use Rattle.recompute.specs.Tables.{numbers, value_in, arrows_in, Recomputes}
use Rattle.recompute.proofs.Grounds.{rising}
use Rattle.tables.specs.Columns.{present_in}
use Rattle.tables.specs.View.{links_of}
use Rattle.store.specs.View.{permit_in, view}
use Rattle.tables.proofs.Views.{links_are}
use Rattle.store.proofs.Edits.{settled, put_is}
use Rattle.store.proofs.store.Store.own.Goals as goal

pub returns-clause-told : goal.returns-clause-told
returns-clause-told g c =
    let m = g.K.LabelKind.means in
    let P = g.row.K-Passage.Denot in
    let self = c.args.self.now in
    let n = self.n in
    let old = self.columns in
    let new = c.own_in.new.t in
    let xs = linked old in
    let ranks = ranks_of old in
    let p = c.args.p.0 in
    let x = m.value c.args.label in
    let list = c.own_in.new.list in
    let counts = c.own_in.result in
    let e = c.own_in.ensures.owned in
    let low : c.args.p.0 < self.n = omega (arith, c.if-index-self.false, c.index.ensures) in
    let some : 0 < self.n = omega (arith, low) in
    let size = self.places in
    let sound = sound_at old n size some in
    let own = subst (λ k. Put (value_in m k old.tables.now.own.items) (value_in m k new.tables.now.own.items) p x) size e.own in
    let labels = subst (λ k. Recomputes m k new.tables.now.own.items xs ranks p old.tables.now.labels.items new.tables.now.labels.items list counts) size e.labels in
    let links : links_of m n (linked new) ≡ links_of m n xs = ap (λ v. links_of m n (links_in v.items)) e.graph.links.0 in
    let are : links_of m n xs ≡ arrows_in m xs = links_are m n xs some in
    let order : order_in n (order_of new) ≡ order_in n (order_of old) = ap (λ v. order_in n v.items) e.graph.ranks.1 in
    let there : (u v : ℕ) (t : P) → Leads (links_of m n (linked new)) u v t → Leads (links_of m n xs) u v t = λ u v t. subst (λ (ls : List (Link P)). Leads ls u v t) links in
    let back : (u v : ℕ) (t : P) → Leads (links_of m n xs) u v t → Leads (links_of m n (linked new)) u v t = λ u v t. subst (λ (ls : List (Link P)). Leads ls u v t) (sym links) in
    let before : Ledger m.Value P = (view m self).ledger in
    let after : Ledger m.Value P = record { present = present_in n new.tables.now.present.items; own = value_in m n new.tables.now.own.items; links = links_of m n (linked new) } in
    record {
      passed = (
        λ i. both_ways (is_out (permit_in self.permit)) (sym c.permit_is_out.ensures ∙ c.if-permit_is_out.false) i,
        (λ l. omega (arith, c.if-list-self.false), (λ l. omega (arith, low), (λ i. both_ways (present_in n old.tables.now.present.items p) i (sym c.is_present.ensures ∙ c.if-not-is_present.false), tt))),
      );
      edits = record {
        does = record {
          places = refl;
          limit = refl;
          ledger = record {
            present = λ q. ap (λ v. present_in n v.items q) e.present;
            own = put_is _ _ p x own;
            links = λ u v t. (there u v t, back u v t);
            number = λ test. ap (λ (ls : List (Link P)). length (filter test ls)) links;
          };
          order = order;
          permit = refl;
        };
        labels = λ joins.
            subst (λ (o : List ℕ). Recomputed m.kind after (rank_in o) p (value_in m n old.tables.now.labels.items) (value_in m n new.tables.now.labels.items) (numbers (take counts.0 list)) counts) (sym order)
            (settled m g.met.K.LabelKind.lawful.laws n new.tables.now.own.items xs ranks (order_of old) sound before after (table.rank_in ranks)
            (λ u v t h. rising m n ranks xs sound.rising u v t (subst (λ (ls : List (Link P)). Leads ls u v t) are h))
            p low (λ q. refl) (links ∙ are) (λ q ne. record { own = sym (own.other q ne); links = λ u t. (back u q t, there u q t) })
            old.tables.now.labels.items new.tables.now.labels.items list counts labels joins);
      };
    }
