use Rattle.std.proofs.Common.{◌≡◌, ℕ, ◌<◌, Bool, true, false, List, length, filter, sym, refl, ap, ◌∙◌, subst, arith}
use Rattle.std.proofs.lemmas.Bool.{both_ways}
use Rattle.paths.specs.Calls.{put}
use Rattle.paths.specs.Ledger.{Link, Leads}
use Rattle.law.specs.Calls.{is_out}
use Rattle.links.specs.Table.{links as links_in}
use Rattle.order.specs.Tables.{order_in}
use Rattle.tables.specs.Graph.{linked}
use Rattle.tables.specs.Columns.{present_in, values_in}
use Rattle.tables.specs.View.{links_of}
use Rattle.store.specs.View.{permit_in}
use Rattle.tables.proofs.Column.{column_set}
use Rattle.store.proofs.store.Store.bring.Goals as goal

pub returns-clause-told : goal.returns-clause-told
returns-clause-told g c =
    let m = g.K.LabelKind.means in
    let P = g.row.K-Passage.Denot in
    let self = c.args.self.now in
    let n = self.n in
    let flags = self.columns.tables.now.present.items in
    let new = c.bring.new.self in
    let e = c.bring.ensures in
    let low : c.args.p.0 < self.n = omega (arith, c.if-index-self.false, c.index.ensures) in
    let in' : c.args.p.0 < length self.columns.tables.now.present.items = omega (arith, low, self.room.0.0.0, self.columns.tables.now.present.ok.0) in
    let write : (q : ℕ) → present_in n new.tables.now.present.items q ≡ put (present_in n flags) c.args.p.0 true q =
    λ q. ap (λ (bs : List Bool). present_in n bs q) e.entry ∙ column_set (λ b. b) false n flags c.args.p.0 true low in' q in
    let links : links_of m n (linked new) ≡ links_of m n (linked self.columns) = ap (λ v. links_of m n (links_in v.items)) e.graph.links.0 in
    record {
      passed = (
        λ e. both_ways (is_out (permit_in self.permit)) (sym c.permit_is_out.ensures ∙ c.if-permit_is_out.false) e,
        (λ l. omega (arith, low), (λ e. both_ways (present_in n flags c.args.p.0) (sym c.is_present.ensures ∙ c.if-is_present.false) e, tt)),
      );
      turns = record {
        does = record {
          places = refl;
          limit = refl;
          ledger = record {
            present = write;
            own = λ q. ap (λ v. values_in m n v.items q) e.rest.0;
            links = λ u v t. (subst (λ (ls : List (Link P)). Leads ls u v t) links, subst (λ (ls : List (Link P)). Leads ls u v t) (sym links));
            number = λ test. ap (λ (ls : List (Link P)). length (filter test ls)) links;
          };
          order = ap (λ v. order_in n v.items) e.graph.ranks.1;
          permit = refl;
        };
        labels = λ q. ap (λ v. values_in m n v.items q) e.rest.1;
      };
    }
