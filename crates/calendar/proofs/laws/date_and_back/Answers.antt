use Rattle.std.proofs.Common.{sym}
use Rattle.calendar.specs.Values.{date_eq}
use Rattle.calendar.proofs.laws.date_and_back.Goals as goal

pub returns : goal.returns
returns c =
    let p = c.date.ensures.only _ _ _ c.in_ok-day.ensures.exact in
    date_eq c.date.result c.args.date (sym p.0) (sym p.1) (sym p.2)
