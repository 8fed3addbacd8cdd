use Rattle.calendar.proofs.Printed.{day_printed}
use Rattle.calendar.proofs.text.DayDisplay.fmt.Goals as goal

pub returns-clause-writes : goal.returns-clause-writes
returns-clause-writes g c = rw (day_printed c.args.self.now.number _ _ _ c.date.ensures.computed) at c.fmt.ensures.writes
