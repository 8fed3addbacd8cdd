use Rattle.std.proofs.Common.{◌+◌, ◌-◌, ◌≤◌, arith}
use Rattle.calendar.specs.Calendar.{before_year, before_month, month_length}
use Rattle.calendar.specs.Rules.{in_range}
use Rattle.calendar.proofs.date.Date.to_day.Goals as goal
use Rattle.calendar.proofs.date.Date.to_day.Goals.{After-start-2}

top : (c : After-start-2) → before_year (c.args.self.year - 1970) + (before_month c.is_long.result c.args.self.month + month_length c.is_long.result c.args.self.month) ≤ 84006
top c = in_range (c.args.self.year - 1970) c.args.self.month c.is_long.result (omega arith) c.is_long.ensures (omega arith) (omega arith)

pub overflow_add-number : goal.overflow_add-number
overflow_add-number c = record { fits = omega (arith, top (goal.at.overflow_add-number c).After-start-2) }

pub overflow_add-number-2 : goal.overflow_add-number-2
overflow_add-number-2 c = record { fits = omega (arith, top (goal.at.overflow_add-number-2 c).After-start-2) }

pub invariant_of-result : goal.invariant_of-result
invariant_of-result c = let t = top (goal.at.invariant_of-result c).After-start-2 in record { low = omega arith; high = omega arith }
