use Rattle.std.proofs.Common.{◌≡◌, ◌<◌, Bool, false, List, length, ap, ◌∙◌, arith}
use Rattle.paths.specs.Calls.{put}
use Rattle.tables.specs.Columns.{present_in, values_in}
use Rattle.tables.specs.Graph.{size}
use Rattle.tables.proofs.Column.{column_set}
use Rattle.discarding.proofs.discard_in.Goals as goal

pub returns : goal.returns
returns g c =
    let means = g.K.LabelKind.means in
    let V = means.Value in
    let p = c.args.p.0 in
    let old = c.args.t.now in
    let mid = c.unlink_entering.new.self in
    let n = size old in
    let empty = means.kind.empty in
    let row = c.to_row-row.result in
    let blank : means.value (means.stands row) ≡ empty = ap means.value c.to_row-row.ensures ∙ c.empty.ensures in
    let e = c.unlink_entering.ensures in
    let present : mid.tables.now.present.items ≡ old.tables.now.present.items = ap (λ v. v.items) e.places.present in
    let own : mid.tables.now.own.items ≡ old.tables.now.own.items = ap (λ v. v.items) e.places.own in
    let labels : mid.tables.now.labels.items ≡ old.tables.now.labels.items = ap (λ v. v.items) e.places.labels in
    let flags : p < length mid.tables.now.present.items = omega (arith, c.requires, ap length present, old.flags.0, old.tables.now.present.ok.0) in
    let owns : p < length mid.tables.now.own.items = omega (arith, c.requires, ap length own, old.rows.0, old.tables.now.own.ok.0) in
    let says : p < length mid.tables.now.labels.items = omega (arith, c.requires, ap length labels, old.rows.1, old.tables.now.labels.ok.0) in
    record {
      loan = e.loan;
      space = record { size = e.space.size; ranks = e.space.ranks; order = e.space.order; heads = e.space.heads; links = e.space.links };
      sizes = (c.write-3.ensures.long ∙ ap (λ v. v.len) e.places.present, c.write.ensures.long ∙ ap (λ v. v.len) e.places.own, c.write-2.ensures.long ∙ ap (λ v. v.len) e.places.labels);
      present = λ q.
          ap (λ (bs : List Bool). present_in n bs q) c.write-3.ensures.entry ∙ column_set (λ b. b) false n mid.tables.now.present.items p false c.requires flags q ∙ ap (λ (bs : List Bool). put (present_in n bs) p false q) present;
      own = λ q.
          ap (λ rs. values_in means n rs q) c.write.ensures.entry ∙ column_set (λ r. means.value (means.stands r)) empty n mid.tables.now.own.items p row c.requires owns q ∙
          ap (λ (x : V). put (values_in means n mid.tables.now.own.items) p x q) blank ∙ ap (λ rs. put (values_in means n rs) p empty q) own;
      labels = λ q.
          ap (λ rs. values_in means n rs q) c.write-2.ensures.entry ∙ column_set (λ r. means.value (means.stands r)) empty n mid.tables.now.labels.items p row c.requires says q ∙
          ap (λ (x : V). put (values_in means n mid.tables.now.labels.items) p x q) blank ∙ ap (λ rs. put (values_in means n rs) p empty q) labels;
      ranks = e.ranked;
      marks = e.marks;
      shut = e.shut;
      fewer = e.fewer;
    }
