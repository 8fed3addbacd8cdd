use Rattle.std.proofs.Common.{◌≡◌, ◌<◌, sym, ap, ◌∙◌, subst, arith}
use Rattle.paths.specs.Kind.{Within}
use Rattle.paths.proofs.Within.{within_trans, within_join, within_left, within_right}
use Rattle.links.specs.declared.row.Side.TheVariants.{Entering}
use Rattle.links.specs.LinksAt.{LinksOf, rest}
use Rattle.recompute.specs.Lent.{size, linked}
use Rattle.recompute.proofs.Lents.{linked_inside}
use Rattle.recompute.specs.Tables.{value_in}
use Rattle.recompute.specs.Joined.{brought}
use Rattle.recompute.proofs.Passing.{passed_none, passed_here, passed_on, passed_all}
use Rattle.recompute.proofs.Rows.{value_read}
use Rattle.recompute.proofs.Sums.{gathered_is}
use Rattle.recompute.proofs.label.gather.Given as Given
use Rattle.recompute.proofs.label.gather.Goals as goal
use Rattle.recompute.proofs.label.gather.Goals.{In-Some}

pub loop-l-init : goal.loop-l-init
loop-l-init g c =
    let G = c.args.graph.now in
    let of = subst (λ it. LinksOf Entering (linked G) (size G) c.args.p.0 (rest it)) (sym c.into_iter-l-iterator.ensures.into_iter_gives) c.entering-l-items.ensures in
    (tt, tt, passed_none Entering (linked G) c.args.p.0 (size G) _ _ of, g.met.K.LabelKind.lawful.laws.same _, λ z t. t.mine)

-- the link at hand enters p, from a place of the graph
here : (g : Given.Over) (c : In-Some g) → c.in-Some.l.source.0 < size c.args.graph.now
here g c = (linked_inside c.args.graph.now c.in-Some.l (passed_here Entering (linked c.args.graph.now) c.args.p.0 _ _ c.in-Some.l c.in-Some.ensures.steps _ c.loop-l.invariant.2).0).0

pub offset_bounds-labels-index : goal.offset_bounds-labels-index
offset_bounds-labels-index g c = let h = here g (goal.at.offset_bounds-labels-index g c).In-Some in omega (arith, c.index-in-loop-l.ensures, c.requires.sizes.1)

pub bounds-labels-index : goal.bounds-labels-index
bounds-labels-index g c = let h = here g (goal.at.bounds-labels-index g c).In-Some in omega (arith, c.index-in-loop-l.ensures, c.requires.sizes.1)

pub loop-l-preserved : goal.loop-l-preserved
loop-l-preserved g c =
    let m = g.K.LabelKind.means in
    let G = c.args.graph.now in
    let n = size G in
    let labels = c.args.labels.now in
    let laws = g.met.K.LabelKind.lawful.laws in
    let l = c.in-Some.l in
    let sum = m.value c.loop-l.sum in
    let sum' = m.value c.join-sum.result in
    let inv = c.loop-l.invariant in
    let low = here g (goal.at.loop-l-preserved g c).In-Some in
    let met = passed_here Entering (linked G) c.args.p.0 _ _ l c.in-Some.ensures.steps _ inv.2 in
    let read : m.value c.from_row-label.result ≡ value_in m n labels l.source.0 =
    ap m.value c.from_row-label.ensures
    ∙ value_read m n labels c.index-in-loop-l.result c.index-labels-index.result (omega (arith, c.index-in-loop-l.ensures)) c.requires.sizes.1 c.index-labels-index.is ∙ ap (value_in m n labels) c.index-in-loop-l.ensures in
    let brings : m.value c.carry.result ≡ brought m n labels l = c.carry.ensures ∙ (λ i. m.kind.carry (c.passage_from_row.ensures i) (read i)) in
    let joined : sum' ≡ m.kind.join sum (brought m n labels l) = c.join-sum.ensures ∙ ap (m.kind.join sum) brings in
    let up : (x : m.Value) → Within m.kind x sum → Within m.kind x sum' = λ x q. subst (Within m.kind x) (sym joined) (within_trans laws x sum _ q (within_left laws sum _)) in (
      tt,
      tt,
      passed_on Entering (linked G) c.args.p.0 _ _ l c.in-Some.ensures.steps _ inv.2 (λ x. Within m.kind (brought m n labels x) sum') (λ x q. up _ q)
          (subst (Within m.kind (brought m n labels l)) (sym joined) (within_right laws sum _)),
      up _ inv.3,
      λ z t. subst (λ y. Within m.kind y z) (sym joined) (within_join laws sum _ z (inv.4 z t) (t.each l met.0 met.1)),
    )

pub returns : goal.returns
returns g c =
    let m = g.K.LabelKind.means in
    let G = c.args.graph.now in
    let n = size G in
    let p = c.args.p.0 in
    let inv = c.loop-l.invariant in
    let mine : m.value c.from_row-sum.result ≡ value_in m n c.args.own.now p =
    ap m.value c.from_row-sum.ensures
    ∙ value_read m n c.args.own.now c.index.result c.index-own-index.result (omega (arith, c.index.ensures, c.requires.place)) c.requires.sizes.0 c.index-own-index.is
    ∙ ap (value_in m n c.args.own.now) c.index.ensures in
    let all = passed_all Entering (linked G) p _ _ c.in-None.ensures.steps.0 inv.2 in
    gathered_is m g.met.K.LabelKind.lawful.laws n c.args.own.now c.args.labels.now (linked G) p (m.value c.loop-l.sum)
    (record { mine = subst (λ x. Within m.kind x (m.value c.loop-l.sum)) mine inv.3; each = all })
    (λ z t. inv.4 z (record { mine = subst (λ x. Within m.kind x z) (sym mine) t.mine; each = t.each }))
