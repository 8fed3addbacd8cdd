use Rattle.std.proofs.Common.{◌≡◌, ◌^◌, ◌<◌, ℕ, false, List, length, take, drop, sym, refl, ap, ◌∙◌, subst, arith, rules}
use Rattle.std.specs.Vec.{with_items}
use Rattle.std.proofs.lemmas.List.{with_items_is}
use Rattle.links.specs.declared.row.Link.{Link}
use Rattle.links.specs.Table.{links}
use Rattle.order.specs.Marks.{Clean}
use Rattle.order.specs.Tables.{Ordered, place_in}
use Rattle.order.proofs.Stays.{keeps_order}
use Rattle.tables.proofs.Column.{column_flat, filled_clean, first_order}
use Rattle.tables.proofs.Lends.{over, kept_back}
use Rattle.tables.proofs.making.clear.Goals as goal

pub invariant_of-columns-clause-kept : goal.invariant_of-columns-clause-kept
invariant_of-columns-clause-kept g c =
    let last = c.reset-columns.new in
    λ _. kept_back c.args.columns.now.tables.now.links c.args.columns.now.tables.now.heads last.rows last.heads c.reset-columns.result (search rules) (search rules) c.reset-columns.ensures.sound

pub invariant_of-columns-clause-ordered : goal.invariant_of-columns-clause-ordered
invariant_of-columns-clause-ordered g c =
    let n = c.args.n in
    let old = c.args.columns.now in
    let ranks = c.first_ranks.new.rank_of in
    let order = c.first_ranks.new.place_at in
    let rows = c.reset-columns.new.rows in
    let S = g.row.K-PassageRow.Denot in
    let e = c.first_ranks.ensures in
    let long : length ranks ≡ old.tables.now.ranks.len = search rules in
    let wide : length order ≡ old.tables.now.order.len = search rules in
    let rowed : length rows ≡ old.tables.now.links.len = search rules in
    let room = c.requires.room in
    let few : n < 2 ^ 31 = omega (arith, c.requires.limits.1) in
    let first = (keeps_order S).first n ranks order few (omega (arith, long, room.1.0.0)) (omega (arith, wide, room.1.0.1)) e.ranks e.places in
    λ _.
    over old.tables.now.links rows (λ xs. Ordered n (with_items old.tables.now.ranks ranks).items (with_items old.tables.now.order order).items (links xs)) rowed
    (over old.tables.now.ranks ranks (λ rs. Ordered n rs (with_items old.tables.now.order order).items (links rows)) long
    (over old.tables.now.order order (λ ps. Ordered n ranks ps (links rows)) wide (subst (λ (ls : List (Link S)). Ordered n ranks order ls) (sym c.reset-columns.ensures.empty) first)))

pub invariant_of-columns-clause-clean : goal.invariant_of-columns-clause-clean
invariant_of-columns-clause-clean g c = over c.args.columns.now.tables.now.marks c.fill-4.new.table (Clean c.args.n) (search rules) (filled_clean c.args.n c.as_mut_slice-4.result.now c.fill-4.new.table c.fill-4.ensures)

pub returns : goal.returns
returns g c =
    let n = c.args.n in
    let means = g.K.LabelKind.means in
    let old = c.args.columns.now in
    let row = c.to_row-row.result in
    let order = c.first_ranks.new.place_at in
    let blank : means.value (means.stands row) ≡ means.kind.empty = ap means.value c.to_row-row.ensures ∙ c.empty.ensures in
    let present = with_items_is old.tables.now.present c.fill.new.table (search rules) in
    let own = with_items_is old.tables.now.own c.fill-2.new.table (search rules) in
    let labels = with_items_is old.tables.now.labels c.fill-3.new.table (search rules) in
    let marks = with_items_is old.tables.now.marks c.fill-4.new.table (search rules) in
    let wide : length order ≡ old.tables.now.order.len = search rules in
    let ordered = over old.tables.now.order order (λ ps. (r : ℕ) → r < n → place_in ps r ≡ r) wide c.first_ranks.ensures.places in
    record {
      loan = refl;
      room = c.requires.room;
      places = refl;
      present = column_flat (λ b. b) false n _ false (ap (take n) present ∙ c.fill.ensures.front) refl;
      own = column_flat (λ r. means.value (means.stands r)) means.kind.empty n _ row (ap (take n) own ∙ c.fill-2.ensures.front) blank;
      labels = column_flat (λ r. means.value (means.stands r)) means.kind.empty n _ row (ap (take n) labels ∙ c.fill-3.ensures.front) blank;
      order = first_order n (with_items old.tables.now.order order).items (let w = (with_items old.tables.now.order order).ok.0 in omega (arith, w, c.requires.room.1.0.1)) ordered;
      unlinked = ap links (with_items_is old.tables.now.links c.reset-columns.new.rows (search rules)) ∙ c.reset-columns.ensures.empty;
      past = ap (drop n) marks ∙ c.fill-4.ensures.back ∙ ap (drop n) c.as_mut_slice-4.ensures.value;
    }
