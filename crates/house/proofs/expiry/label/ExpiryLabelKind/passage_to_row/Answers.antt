use Rattle.std.proofs.Common.{sym, ap, ◌∙◌, arith}
use Rattle.calendar.specs.Values.{day_eq}
use Rattle.house.specs.ValuesLemmas.{count_eq}
use Rattle.house.specs.declared.expiry.ExpiryPassage.TheVariants.{Cap, Add, Years}
use Rattle.house.proofs.expiry.label.ExpiryLabelKind.passage_to_row.Goals as goal

pub returns-in-Cap : goal.returns-in-Cap
returns-in-Cap c = ap Cap (day_eq _ c.in-Cap.day (omega arith)) ∙ sym c.in-Cap.is

pub returns-in-Add : goal.returns-in-Add
returns-in-Add c = ap Add (count_eq _ c.in-Add.span (omega arith)) ∙ sym c.in-Add.is

pub returns-in-Years : goal.returns-in-Years
returns-in-Years c = ap Years (count_eq _ c.in-Years.years (omega arith)) ∙ sym c.in-Years.is
