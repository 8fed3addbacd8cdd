use Rattle.std.proofs.Common.{sym, ◌∙◌, arith}
use Rattle.std.proofs.lemmas.Bool.{le-ltb}
use Rattle.house.specs.BitLaws.{bit_high}
use Rattle.house.proofs.word.has.Goals as goal

pub returns-else-number-lt64 : goal.returns-else-number-lt64
returns-else-number-lt64 c =
    le-ltb c.args.number 64 c.if-number-lt64.false ∙ sym (bit_high 64 c.args.word c.args.number (omega arith) c.if-number-lt64.false)
