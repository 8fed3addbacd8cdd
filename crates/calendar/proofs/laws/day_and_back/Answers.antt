use Rattle.std.proofs.Common.{◌∙◌}
use Rattle.calendar.specs.Dates.{test_tells}
use Rattle.calendar.specs.Values.{ok_is}
use Rattle.calendar.proofs.laws.day_and_back.Goals as goal

pub returns : goal.returns
returns c = ok_is c.to_day.result c.args.day (c.to_day.ensures.computed ∙ (test_tells _ _ _ c.args.day.number).1 c.date.ensures.falls)
