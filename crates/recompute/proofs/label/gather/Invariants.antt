use Rattle.paths.specs.Kind.{Within}
use Rattle.links.specs.declared.row.Side.TheVariants.{Entering}
use Rattle.links.specs.LinksAt.{rest}
use Rattle.recompute.specs.Lent.{size, linked}
use Rattle.recompute.specs.Joined.{brought, Takes}
use Rattle.recompute.proofs.Passing.{Passed}
use Rattle.recompute.proofs.label.gather.Given as goal

abbrev pub invariant-loop-l : goal.invariant-loop-l
invariant-loop-l g l =
    let m = g.K.LabelKind.means in
    let sum = m.value l.sum in
    (goal.iterator-loop-l g).can_next l.l-iterator × (goal.iterator-loop-l g).is_finite l.l-iterator
    × Passed Entering (linked l.graph) l.fn.p.0 (rest l.l-iterator) (λ x. Within m.kind (brought m (size l.graph) l.labels x) sum)
    × Within m.kind (m.value l.initial.sum) sum
    × ((z : m.Value) → Takes m (size l.graph) l.labels (linked l.graph) l.fn.p.0 (m.value l.initial.sum) z → Within m.kind sum z)
