use Rattle.std.proofs.Common.{◌-◌, length, IfSome}
use Rattle.links.specs.Threads.{Way, after}
use Rattle.links.specs.Table.{IsUsed, view, number_or}
use Rattle.links.proofs.threads.seek.Given as goal

abbrev pub invariant-loop-link : goal.invariant-loop-link
invariant-loop-link g l = record {
  way : Way (view l.side l.rows l.heads) l.fn.p.0 l.end.0 (number_or (length l.rows) l.prev) l.at.0;
  behind : IfSome l.prev (λ s. IsUsed l.rows s.0);
}

abbrev pub decreases-loop-link : goal.decreases-loop-link
decreases-loop-link g l = l.end.0 - after (view l.side l.rows l.heads) (number_or (length l.rows) l.prev)
