use Rattle.std.proofs.Common.{drop, vec_items, refl, sym, ap, ◌∙◌, subst, rules}
use Rattle.order.specs.Marks.{Clean}
use Rattle.tables.specs.Graph.{linked}
use Rattle.tables.specs.Room.{Room}
use Rattle.tables.proofs.Views.{no_links}
use Rattle.store.proofs.Views.{same_first}
use Rattle.store.proofs.store.Store.new.Goals as goal

pub clear-requires-clause-room : goal.clear-requires-clause-room
clear-requires-clause-room g c =
    let room : Room c.args.tables.now c.args.n c.args.m = search (rules, c.in_default.ensures) in
    subst (λ t. Room t c.args.n c.args.m) (sym c.new-columns.ensures.kept) room

pub returns : goal.returns
returns g c =
    let means = g.K.LabelKind.means in
    let cleared = c.clear.ensures in
    let t = c.clear.new.columns in
    record {
      passed = c.in_default.ensures;
      new = record {
        places = refl;
        limit = refl;
        ledger = same_first means.kind _ cleared.present cleared.own (no_links means c.args.n (linked t) cleared.unlinked);
        label = cleared.labels;
        order = cleared.order;
        permit = refl;
      };
      clean = subst (λ n. Clean n t.tables.now.marks.items) cleared.places t.clean;
      past = cleared.past ∙ ap (λ u. drop c.args.n (vec_items u.marks)) c.new-columns.ensures.kept;
    }
