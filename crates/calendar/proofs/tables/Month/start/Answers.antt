use Rattle.std.proofs.Common.{get_or, ap, ◌-◌, ◌∙◌}
use Rattle.calendar.specs.Rules.{starts_right}
use Rattle.calendar.proofs.tables.Month.start.Goals as goal

pub returns : goal.returns
returns c =
    let m = c.args.self in
    ap (λ xs. get_or xs (m.number - 1) 0) c.month_starts.ensures ∙ starts_right m.long m.number m.low m.high
