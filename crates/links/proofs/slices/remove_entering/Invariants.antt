use Rattle.links.specs.Table.{Kept, links}
use Rattle.links.proofs.Shuts.{Thinned}
use Rattle.links.proofs.slices.remove_entering.Given as goal

abbrev pub invariant-loop-s : goal.invariant-loop-s
invariant-loop-s g l = record { sound : Kept l.rows l.heads l.tally; thinned : Thinned (links l.initial.rows) (links l.rows) l.p.0 }

abbrev pub decreases-loop-s : goal.decreases-loop-s
decreases-loop-s g l = l.tally.count
