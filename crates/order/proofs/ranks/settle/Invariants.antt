use Rattle.std.proofs.Common.{◌+◌, ◌-◌, ◌≤◌}
use Rattle.order.specs.Tables.{rank_in, place_in}
use Rattle.order.specs.Sharing.{Shuffled, Settled}
use Rattle.order.proofs.Settles.{strays}
use Rattle.order.proofs.ranks.settle.Given as goal

abbrev pub invariant-loop-r : goal.invariant-loop-r
invariant-loop-r l =
    (l.from ≤ l.r) × Shuffled l.from l.top (rank_in l.ranks) (place_in l.order)
    × Settled l.from l.top l.r (rank_in l.ranks) (place_in l.initial.order) (place_in l.order)

abbrev pub decreases-loop-r : goal.decreases-loop-r
decreases-loop-r l = strays (rank_in l.ranks) (place_in l.order) (l.top + 1) + (l.top + 1 - l.r)
