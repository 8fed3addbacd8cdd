use Rattle.house.specs.BitLaws.{bit_with}
use Rattle.house.proofs.word.with.Goals as goal

pub returns : goal.returns
returns c = λ k. bit_with 64 c.args.word c.args.number k c.requires
