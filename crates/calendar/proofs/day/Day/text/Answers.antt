use Rattle.std.proofs.Common.{◌∙◌}
use Rattle.calendar.proofs.Printed.{day_printed}
use Rattle.calendar.proofs.day.Day.text.Goals as goal

pub returns : goal.returns
returns c = c.text.ensures ∙ day_printed c.args.self.number _ _ _ c.date.ensures.computed
