use Rattle.calendar.specs.Rules.{years_right}
use Rattle.calendar.proofs.tables.year_start.Goals as goal

pub returns : goal.returns
returns c = years_right c.args.k c.requires
