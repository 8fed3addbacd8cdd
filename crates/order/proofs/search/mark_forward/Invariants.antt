use Rattle.std.proofs.Common.{◌≡◌, ◌+◌}
use Rattle.links.specs.Table.{links}
use Rattle.order.specs.Tables.{rank_in, links_in, marked_in}
use Rattle.order.specs.Marks.{Beyond}
use Rattle.order.specs.Forward.{Reached}
use Rattle.order.proofs.search.mark_forward.Given as goal

abbrev pub invariant-loop-p : goal.invariant-loop-p
invariant-loop-p g l =
    let n = l.initial.marks.n in
    Reached (links_in (links l.rows)) (rank_in l.rank_of) n l.v.0 (rank_in l.rank_of l.v.0 + l.p-index) (marked_in n l.marks.bytes.now)
    × Beyond n l.initial.marks.bytes.now l.marks.bytes.now × (l.marks.n ≡ n) × (l.marks.bytes.ghost_name ≡ l.initial.marks.bytes.ghost_name)
