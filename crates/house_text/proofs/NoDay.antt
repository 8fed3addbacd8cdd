-- The text of the number 0, which no day has. Assumes nothing.
use Rattle.std.proofs.Common.{◌≡◌, codes, refl}
use Rattle.calendar.specs.Calendar.{before_year, before_month, last_at_most, years_to, month_of, day_of}
use Rattle.calendar.specs.Text.{day_text}

pub no_day : codes "1970-01-01" ≡ day_text 0
unfolding before_year before_month last_at_most years_to month_of day_of day_text
no_day = refl
