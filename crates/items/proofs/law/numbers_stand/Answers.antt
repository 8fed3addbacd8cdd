use Rattle.items.specs.Numbers.{number_tells}
use Rattle.items.proofs.law.numbers_stand.Goals as goal

pub returns : goal.returns
returns c = number_tells
