use Rattle.std.proofs.Common.{ℕ, List, ap, ◌∙◌, subst, subst₂}
use Rattle.common.specs.declared.number.Rank.{Rank}
use Rattle.links.specs.Table.{links}
use Rattle.order.specs.Graph.{linked, ranks_of}
use Rattle.recompute.specs.Tables.{Recomputes}
use Rattle.recompute.proofs.graph.recompute.Goals as goal

pub returns-clause-recomputes : goal.returns-clause-recomputes
returns-clause-recomputes g c =
    let m = g.K.LabelKind.means in
    let G = c.args.graph.now in
    let made = c.recompute_lent.new in
    let told = c.recompute_lent.result in
    let held = ap links (c.rows.ensures ∙ ap (λ t. t.rows.items) c.links-links.ensures) in
    subst (λ (n : ℕ). Recomputes m n c.args.own.now (linked G) (ranks_of G) c.args.e.0 c.args.labels.now made.labels made.list told) c.places.ensures
    (subst₂ (λ xs (rs : List Rank). Recomputes m c.places.result c.args.own.now xs rs c.args.e.0 c.args.labels.now made.labels made.list told) held c.ranks.ensures c.recompute_lent.ensures.recomputes)
