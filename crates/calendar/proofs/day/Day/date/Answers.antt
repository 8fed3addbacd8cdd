use Rattle.std.proofs.Common.{◌≡◌, ◌+◌, ◌-◌, ◌∙◌, subst, arith}
use Rattle.calendar.specs.Calendar.{leap, before_year, before_month, FallsOn}
use Rattle.calendar.specs.Rules.{month_short}
use Rattle.calendar.specs.Dates.{placed, one_date, date_is}
use Rattle.calendar.proofs.day.Day.date.Goals as goal
use Rattle.calendar.proofs.day.Day.date.Goals.{After-start-2}

-- the date that was found falls on the day
found : (c : After-start-2) → FallsOn (1970 + c.of_day-year.result.index) c.of_rest-month.result.number (c.args.self.number - c.start.result - c.start-2.result + 1) c.args.self.number
found c =
    let k = c.of_day-year.result.index in
    let m = c.of_rest-month.result.number in
    let n = c.args.self.number in
    let l = c.of_rest-month.result.long in
    let d : n - before_year k - before_month l m + 1 ≡ n - c.start.result - c.start-2.result + 1 = omega arith in
    subst (λ e. FallsOn (1970 + k) m e n) d
    (placed k m n l (c.args.self.low, c.args.self.high) c.of_day-year.result.inside (c.of_rest-month.ensures.year ∙ c.is_long.ensures) c.of_day-year.ensures.0 c.of_day-year.ensures.1
    c.of_rest-month.result.low c.of_rest-month.result.high (omega (arith, c.of_rest-month.ensures.from)) (λ h. omega (arith, c.of_rest-month.ensures.to h)))

pub invariant_of-result : goal.invariant_of-result
invariant_of-result c =
    let x = (found (goal.at.invariant_of-result c).After-start-2).0 in
    let s = month_short (leap (1970 + c.of_day-year.result.index)) c.of_rest-month.result.number x.month_from x.month_to in
    record { year_fits = omega (arith, x.year_to); month_fits = omega (arith, x.month_to); day_fits = omega (arith, x.day_to) }

pub returns : goal.returns
returns c =
    let f = found (goal.at.returns c).After-start-2 in
    record { falls = f; only = λ y m d g. one_date y m d _ _ _ c.args.self.number g f; computed = date_is _ _ _ c.args.self.number f }
