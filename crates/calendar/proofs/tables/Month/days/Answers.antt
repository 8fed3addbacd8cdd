use Rattle.std.proofs.Common.{sym, ap, ◌∙◌, arith}
use Rattle.calendar.specs.Calendar.{month_length}
use Rattle.calendar.specs.Rules.{month_more, december}
use Rattle.calendar.proofs.tables.Month.days.Goals as goal

pub overflow_sub-result : goal.overflow_sub-result
overflow_sub-result c = omega (arith, month_more c.args.self.long c.args.self.number (omega arith) (omega arith))

pub returns-then-self-eq12 : goal.returns-then-self-eq12
returns-then-self-eq12 c = sym (december c.args.self.long) ∙ ap (month_length c.args.self.long) (omega arith)

pub returns : goal.returns
returns c = omega (arith, month_more c.args.self.long c.args.self.number (omega arith) (omega arith))
