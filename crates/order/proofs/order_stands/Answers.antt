use Rattle.order.proofs.Stays.{keeps_order}
use Rattle.order.proofs.Passages.{same_paths}
use Rattle.order.proofs.order_stands.Goals as goal

pub returns : goal.returns
returns g c = record { kept = keeps_order _; paths = same_paths _ _ }
