use Rattle.order.proofs.Specimen.{one_order, specimen}
use Rattle.order.proofs.rule_stands.Goals as goal

pub returns : goal.returns
returns g c = record { one = one_order _; specimen = specimen }
