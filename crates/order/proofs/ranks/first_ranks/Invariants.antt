use Rattle.std.proofs.Common.{◌≡◌, ℕ, ◌<◌}
use Rattle.order.specs.Tables.{rank_in, place_in}
use Rattle.order.proofs.ranks.first_ranks.Given as goal

abbrev pub invariant-loop-p : goal.invariant-loop-p
invariant-loop-p l = (p : ℕ) → p < l.p → rank_in l.rank-items p ≡ p

abbrev pub invariant-loop-r : goal.invariant-loop-r
invariant-loop-r l = (r : ℕ) → r < l.r → place_in l.place-items r ≡ r
