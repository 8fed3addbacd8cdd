use Rattle.std.proofs.Common.{sym, ap, ◌∙◌, arith}
use Rattle.calendar.specs.Values.{day_eq}
use Rattle.house.specs.Expiries.{day_of, span_of, years_of, expiry_passage_of}
use Rattle.house.specs.ValuesLemmas.{count_eq}
use Rattle.house.specs.declared.expiry.ExpiryPassage.TheVariants.{Cap, Add, Years}
use Rattle.house.proofs.expiry.label.ExpiryLabelKind.passage_from_row.Goals as goal

pub returns-in-Cap : goal.returns-in-Cap
returns-in-Cap c = ap Cap (day_eq _ (day_of c.in-Cap.number) (omega arith)) ∙ ap expiry_passage_of (sym c.in-Cap.is)

pub returns-in-Add : goal.returns-in-Add
returns-in-Add c = ap Add (count_eq _ (span_of c.in-Add.days) c.nearest.ensures) ∙ ap expiry_passage_of (sym c.in-Add.is)

pub returns-in-Years : goal.returns-in-Years
returns-in-Years c = ap Years (count_eq _ (years_of c.in-Years.count) c.nearest-in-Years.ensures) ∙ ap expiry_passage_of (sym c.in-Years.is)
