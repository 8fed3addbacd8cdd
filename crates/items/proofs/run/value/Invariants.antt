use Rattle.std.proofs.Common.{◌≡◌, ◌^◌, ◌<◌, drop}
use Rattle.items.specs.Lex.{value_from}
use Rattle.items.proofs.run.value.Given as goal

abbrev pub invariant-loop-b : goal.invariant-loop-b
invariant-loop-b l = (l.n < 10 ^ l.b-index) × (value_from 0 l.r ≡ value_from l.n (drop l.b-index l.r))
