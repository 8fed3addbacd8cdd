-- What holds of days, dates and their texts. Assumes nothing.
use Rattle.std.specs.Prelude.{◌≡◌, ℕ, ◌↔◌, List, Some, None}
use Rattle.calendar.specs.Calendar.{InRange, FallsOn, day_if, year_of, month_of, day_of}
use Rattle.calendar.specs.Text.{day_text, day_in}

-- the days are the numbers 1 to 84,005, and each is exactly one date
pub record DaysAreDates : Type 0 where
  pub ranged : (y m d n : ℕ) → FallsOn y m d n → InRange n
  pub dated : (n : ℕ) → InRange n → FallsOn (year_of n) (month_of n) (day_of n) n
  pub one_date : (y m d y' m' d' n : ℕ) → FallsOn y m d n → FallsOn y' m' d' n → (y ≡ y') × (m ≡ m') × (d ≡ d')

-- the test of a date tells which day it is
abbrev pub TestTells : Type 0
TestTells = (y m d n : ℕ) → (day_if y m d ≡ Some n) ↔ FallsOn y m d n

-- a text is read as a day exactly when it is that day's text
abbrev pub TextTells : Type 0
TextTells = (r : List ℕ) (n : ℕ) → (day_in r ≡ Some n) ↔ (InRange n × (r ≡ day_text n))

-- worked examples
abbrev pub Examples : Type 0
Examples =
    (day_if 2026 3 1 ≡ Some 20513) × (day_if 2100 2 29 ≡ None) × (day_if 2200 1 1 ≡ None) × (day_if 1970 1 1 ≡ None)
    × (day_if 2199 12 31 ≡ Some 84005) × (day_if 1970 1 2 ≡ Some 1) × (day_if 2000 2 29 ≡ Some 11016)
