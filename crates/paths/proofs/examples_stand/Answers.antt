use Rattle.paths.proofs.Examples.{foot_label, six_places}
use Rattle.paths.proofs.examples_stand.Goals as goal

pub returns : goal.returns
returns c = record { diamond = foot_label; six = six_places }
