use Rattle.house.specs.BitLaws.{bit_of_or}
use Rattle.house.proofs.word.union.Goals as goal

pub returns : goal.returns
returns c = λ i. λ k. bit_of_or c.args.a c.args.b k i
