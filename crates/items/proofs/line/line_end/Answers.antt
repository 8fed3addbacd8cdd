use Rattle.std.proofs.Common.{◌-◌, ◌∙◌, arith}
use Rattle.items.specs.Steps.{rest_at}
use Rattle.items.proofs.line.line_end.Goals as goal

pub returns-clause-unbroken : goal.returns-clause-unbroken
returns-clause-unbroken c = λ k a b e. c.before_break.ensures.unbroken (k - c.args.at) (omega arith) (omega arith) (rest_at c.args.text.now c.args.at k a ∙ e)
