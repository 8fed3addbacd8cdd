use Rattle.std.proofs.Common.{◌≡◌, ◌+◌, length}
use Rattle.order.specs.Tables.{rank_in, order_in, marked_in}
use Rattle.order.specs.Sharing.{met, Dealt}
use Rattle.order.proofs.ranks.deal.Given as goal

abbrev pub invariant-loop-p : goal.invariant-loop-p
invariant-loop-p l =
    let low = l.fn.window.low.0 in
    let ps = met l.inside (marked_in l.marks.n l.marks.bytes.now) low (low + l.p-index) (order_in l.marks.n l.order) in
    Dealt ps l.start (rank_in l.initial.ranks) (rank_in l.ranks) × (l.next ≡ l.start + length ps)
