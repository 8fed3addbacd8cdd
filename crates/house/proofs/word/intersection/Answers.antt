use Rattle.house.specs.BitLaws.{bit_of_and}
use Rattle.house.proofs.word.intersection.Goals as goal

pub returns : goal.returns
returns c = λ i. λ k. bit_of_and c.args.a c.args.b k i
