use Rattle.std.proofs.Common.{◌≡◌, ℕ, ◌<◌, false, Some, None, Option, sym, refl, ap, subst, arith}
use Rattle.std.proofs.lemmas.Bool.{both_ways}
use Rattle.paths.specs.Ledger.{Ledger}
use Rattle.paths.specs.Calls.{next, put}
use Rattle.paths.specs.Calls as ledger
use Rattle.links.proofs.Ties.{follows}
use Rattle.law.specs.Calls.{Permit, none, out, is_out}
use Rattle.law.specs.State.{Same}
use Rattle.order.specs.Tables.{order_in}
use Rattle.tables.specs.Graph.{linked}
use Rattle.recompute.specs.Tables.{value_in, arrows_in}
use Rattle.tables.specs.Columns.{present_in, values_in}
use Rattle.tables.specs.View.{links_of}
use Rattle.discarding.specs.Discarded.{Discarded}
use Rattle.store.specs.declared.grant.Grant.{Grant}
use Rattle.store.specs.Held.{HoldsPlace}
use Rattle.store.specs.View.{permit_in, view}
use Rattle.tables.proofs.Views.{links_are}
use Rattle.store.proofs.Edits.{same_by, alike_eq}
use Rattle.store.proofs.store.Store.discard.Goals as goal

abbrev place_of : Permit → ℕ
place_of none = 0
place_of (out p d) = p

-- a permit that is out is for a place of the store
held_some : (o : Option Grant) (n p d : ℕ) → HoldsPlace o n → permit_in o ≡ out p d → p < n
held_some None n p d h e = absurd (both_ways false refl (ap is_out e))
held_some (Some g) n p d h e = let l = h g refl in let x : g.place.0 ≡ p = ap place_of e in omega (arith, l, x)

pub returns-clause-told : goal.returns-clause-told
returns-clause-told g c =
    let m = g.K.LabelKind.means in
    let V = m.Value in
    let P = g.row.K-Passage.Denot in
    let k = m.kind in
    let self = c.args.self.now in
    let n = self.n in
    let old = self.columns in
    let new = c.discard_in.new.t in
    let xs = linked old in
    let ys = linked new in
    let p = c.args.permit.place.0 in
    let ours : permit_in self.permit ≡ out p c.args.permit.day.number = c.is_out.ensures.yes c.if-not-is_out.false in
    let some : 0 < n = let l = held_some self.permit n p c.args.permit.day.number self.held ours in omega (arith, l) in
    let at = self.places in
    let e = subst (λ (q : ℕ). Discarded m q old new) (ap (λ x. x.0) c.place-place.ensures) c.discard_in.ensures in
    let present = subst (λ j. (q : ℕ) → present_in j new.tables.now.present.items q ≡ put (present_in j old.tables.now.present.items) p false q) at e.present in
    let own = subst (λ j. (q : ℕ) → values_in m j new.tables.now.own.items q ≡ put (values_in m j old.tables.now.own.items) p k.empty q) at e.own in
    let labels = subst (λ j. (q : ℕ) → values_in m j new.tables.now.labels.items q ≡ put (values_in m j old.tables.now.labels.items) p k.empty q) at e.labels in
    let are : links_of m n xs ≡ arrows_in m xs = links_are m n xs some in
    let are' : links_of m n ys ≡ arrows_in m ys = links_are m n ys some in
    let before : Ledger V P = (view m self).ledger in
    let after : Ledger V P = record { present = present_in n new.tables.now.present.items; own = value_in m n new.tables.now.own.items; links = links_of m n ys } in
    let cut : Ledger V P = next k before (ledger.discard p) in
    let alike = (follows g.row.K-PassageRow.Denot V P).shuts k before m.leads xs ys p e.shut (alike_eq (arrows_in m xs) before.links (sym are)) in
    let same : Same after cut = same_by cut after (arrows_in m ys) present own are' alike in
    record {
      passed = (λ other. other ours, tt);
      turns = record {
        does = record { places = refl; limit = refl; ledger = same; order = ap (λ v. order_in n v.items) e.ranks.1; permit = refl };
        labels = labels;
      };
    }
