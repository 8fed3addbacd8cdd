use Rattle.std.proofs.Common.{ap, ◌∙◌}
use Rattle.std.specs.Fmt.{styled_decimal}
use Rattle.calendar.proofs.Printed.{padded_two, padded_four}
use Rattle.calendar.proofs.text.DateDisplay.fmt.Goals as goal

pub returns-clause-writes : goal.returns-clause-writes
returns-clause-writes g c =
    let date = c.args.self.now in
    let y = ap (λ s. styled_decimal s date.year) c.laid_out.ensures ∙ padded_four date.year date.year_fits in
    let m = ap (λ s. styled_decimal s date.month) c.laid_out-2.ensures ∙ padded_two date.month date.month_fits in
    let d = ap (λ s. styled_decimal s date.day) c.laid_out-3.ensures ∙ padded_two date.day date.day_fits in
    rw (y, m, d) at c.write.ensures.writes
