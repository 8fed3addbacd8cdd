-- A date as text: four digits, two and two, with hyphens between. Assumes nothing.
use Rattle.std.specs.Prelude.{ℕ, ◌+◌, ◌-◌, ◌*◌, ◌/◌, ◌%◌, Bool, cond, ◌&&◌, List, [], ◌∷◌, ◌++◌, length, None, Option, ◌==◌, nat_le, slice_index}
use Rattle.calendar.specs.Calendar.{day_if, year_of, month_of, day_of}

-- the byte is one of 0 to 9
abbrev pub digit : ℕ → Bool
digit b = nat_le 48 b && nat_le b 57

abbrev pub two : ℕ → List ℕ
two n = (48 + n / 10) ∷ (48 + n % 10) ∷ []

abbrev pub date_text : ℕ → ℕ → ℕ → List ℕ
date_text y m d = (two (y / 100) ++ two (y % 100)) ++ (45 ∷ (two m ++ (45 ∷ two d)))

-- the text of the day n
unfoldable pub day_text : ℕ → List ℕ
day_text n = date_text (year_of n) (month_of n) (day_of n)

-- two digits at i
abbrev pub digits_at : List ℕ → ℕ → Bool
digits_at r i = digit (slice_index r i) && digit (slice_index r (i + 1))

-- the number that two digits at i write
abbrev pub two_at : List ℕ → ℕ → ℕ
two_at r i = (slice_index r i - 48) * 10 + (slice_index r (i + 1) - 48)

-- the text has the form of a date, whether or not there is that date
abbrev pub is_date : List ℕ → Bool
is_date r = length r == 10 && (slice_index r 4 == 45 && (slice_index r 7 == 45 && (digits_at r 0 && (digits_at r 2 && (digits_at r 5 && digits_at r 8)))))

-- the day that a text is the date of, if it is one
abbrev pub day_in : List ℕ → Option ℕ
day_in r = cond (is_date r) (day_if (two_at r 0 * 100 + two_at r 2) (two_at r 5) (two_at r 8)) None
