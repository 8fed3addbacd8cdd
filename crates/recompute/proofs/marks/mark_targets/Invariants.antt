use Rattle.std.proofs.Common.{◌≡◌, ℕ, ◌≤◌, ◌⊎◌, get_or}
use Rattle.links.specs.declared.row.Side.TheVariants.{Leaving}
use Rattle.links.specs.Table.{Leads}
use Rattle.links.specs.LinksAt.{rest}
use Rattle.order.specs.Tables.{rank_in}
use Rattle.recompute.specs.Lent.{linked, ranks_of}
use Rattle.recompute.proofs.Passing.{Passed}
use Rattle.recompute.proofs.marks.mark_targets.Given as goal

abbrev pub invariant-loop-l : goal.invariant-loop-l
invariant-loop-l g l =
    let marks = l.marks.bytes.now in
    (goal.iterator-loop-l g).can_next l.l-iterator × (goal.iterator-loop-l g).is_finite l.l-iterator
    × Passed Leaving (linked l.graph) l.fn.p.0 (rest l.l-iterator) (λ x. (get_or marks x.target.0 0 ≡ 1) × (rank_in (ranks_of l.graph) x.target.0 ≤ l.top.0))
    × ((q : ℕ) → (get_or marks q 0 ≡ get_or l.initial.marks.bytes.now q 0) ⊎ ((get_or marks q 0 ≡ 1) × Leads (linked l.graph) l.fn.p.0 q))
    × (l.initial.top.0 ≤ l.top.0)
    × ((l.top.0 ≡ l.initial.top.0) ⊎ ((q : ℕ) × Leads (linked l.graph) l.fn.p.0 q × (l.top.0 ≡ rank_in (ranks_of l.graph) q)))
    × (l.marks.n ≡ l.initial.marks.n) × (l.marks.bytes.ghost_name ≡ l.initial.marks.bytes.ghost_name)
