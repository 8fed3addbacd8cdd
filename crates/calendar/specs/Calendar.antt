-- The Gregorian calendar: the leap rule, the lengths of years and months, and the days that lie before a date. Assumes nothing.
use Rattle.std.specs.Prelude.{◌≡◌, ℕ, zero, suc, ◌+◌, ◌-◌, ◌%◌, ◌≤◌, Bool, true, false, cond, ◌&&◌, List, [], ◌∷◌, take, Some, None, Option, ◌==◌, nat_le, slice_index}

-- every fourth year, but of the full centuries only every fourth
abbrev pub leap : ℕ → Bool
leap y = cond (y % 400 == 0) true (cond (y % 100 == 0) false (y % 4 == 0))

abbrev pub year_length : ℕ → ℕ
year_length y = cond (leap y) 366 365

-- the days from 1 January 1970 to 1 January of the year 1970 + k
unfoldable pub before_year : ℕ → ℕ
before_year zero = 0
before_year (suc k) = before_year k + year_length (1970 + k)

abbrev pub month_lengths : Bool → List ℕ
month_lengths l = 31 ∷ cond l 29 28 ∷ 31 ∷ 30 ∷ 31 ∷ 30 ∷ 31 ∷ 31 ∷ 30 ∷ 31 ∷ 30 ∷ 31 ∷ []

abbrev pub total : List ℕ → ℕ
total [] = 0
total (x ∷ xs) = x + total xs

-- the days of the months before month m, 1 for January, in a leap year or in another
unfoldable pub before_month : Bool → ℕ → ℕ
before_month l m = total (take (m - 1) (month_lengths l))

unfoldable pub month_length : Bool → ℕ → ℕ
month_length l m = slice_index (month_lengths l) (m - 1)

-- the number of a date, 0 for 1 January 1970
abbrev pub day_number : ℕ → ℕ → ℕ → ℕ
day_number y m d = before_year (y - 1970) + before_month (leap y) m + (d - 1)

-- the date exists, and is one of 2 January 1970 to 31 December 2199
pub record Exists (y m d : ℕ) : Type 0 where
  pub year_from : 1970 ≤ y
  pub year_to : y ≤ 2199
  pub month_from : 1 ≤ m
  pub month_to : m ≤ 12
  pub day_from : 1 ≤ d
  pub day_to : d ≤ month_length (leap y) m
  pub not_first : 1 ≤ day_number y m d

-- the date is the day n
abbrev pub FallsOn : ℕ → ℕ → ℕ → ℕ → Type 0
FallsOn y m d n = Exists y m d × (day_number y m d ≡ n)

-- a number of a day
abbrev pub InRange : ℕ → Type 0
InRange n = (1 ≤ n) × (n ≤ 84005)

-- that the date exists, as a test
abbrev pub exists : ℕ → ℕ → ℕ → Bool
exists y m d = nat_le 1970 y && (nat_le y 2199 && (nat_le 1 m && (nat_le m 12 && (nat_le 1 d && (nat_le d (month_length (leap y) m) && nat_le 1 (day_number y m d))))))

-- the day of a date, if it exists
abbrev pub day_if : ℕ → ℕ → ℕ → Option ℕ
day_if y m d = cond (exists y m d) (Some (day_number y m d)) None

-- the last number up to t at which f is at most n, 0 if there is none
unfoldable pub last_at_most : (ℕ → ℕ) → ℕ → ℕ → ℕ
last_at_most f n zero = zero
last_at_most f n (suc t) = cond (nat_le (f (suc t)) n) (suc t) (last_at_most f n t)

-- the date of the day n: the last year that begins by then, the last month of it that does, and the days since
unfoldable pub years_to : ℕ → ℕ
years_to n = last_at_most before_year n 229

abbrev pub year_of : ℕ → ℕ
year_of n = 1970 + years_to n

unfoldable pub month_of : ℕ → ℕ
month_of n = last_at_most (λ j. before_month (leap (year_of n)) (j + 1)) (n - before_year (years_to n)) 11 + 1

unfoldable pub day_of : ℕ → ℕ
day_of n = n - before_year (years_to n) - before_month (leap (year_of n)) (month_of n) + 1
