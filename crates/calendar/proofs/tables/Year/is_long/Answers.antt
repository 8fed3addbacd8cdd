use Rattle.std.proofs.Common.{◌≡◌, ◌+◌, ◌-◌, eqb, ap, ◌∙◌, arith}
use Rattle.calendar.specs.Calendar.{leap, year_length}
use Rattle.calendar.specs.Rules.{year_more, length_tells}
use Rattle.calendar.proofs.tables.Year.is_long.Goals as goal

pub overflow_sub-result : goal.overflow_sub-result
overflow_sub-result c = omega (arith, year_more c.args.self.index)

pub returns : goal.returns
returns c =
    let k = c.args.self.index in
    let d : c.year_start.result - c.year_start-2.result ≡ year_length (1970 + k) = omega (arith, year_more k) in
    ap (λ n. eqb n 366) d ∙ length_tells (leap (1970 + k))
