use Rattle.std.proofs.Common.{refl}
use Rattle.calendar.specs.Calendar.{before_year, before_month, month_length}
use Rattle.calendar.specs.Dates.{days_are_dates, test_tells}
use Rattle.calendar.specs.Texts.{text_tells}
use Rattle.calendar.proofs.laws.calendar_stands.Goals as goal

pub returns : goal.returns
unfolding before_year before_month month_length
returns c = record { days = days_are_dates; test = test_tells; text = text_tells; examples = (refl, refl, refl, refl, refl, refl, refl) }
