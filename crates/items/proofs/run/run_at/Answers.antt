use Rattle.std.proofs.Common.{◌-◌, length, take, drop, ap, ◌∙◌}
use Rattle.std.specs.List.{take_while}
use Rattle.items.specs.Lex.{in_run}
use Rattle.items.specs.Steps.{run_is, rest_is}
use Rattle.items.proofs.run.run_at.Goals as goal

pub returns-clause-bytes : goal.returns-clause-bytes
returns-clause-bytes c =
    ap (λ n. take n (take (length c.args.text.now - c.args.at) (drop c.args.at c.args.text.now))) c.run_size.ensures ∙ ap (take_while in_run) (rest_is c.args.text.now c.args.at) ∙ run_is (drop c.args.at c.args.text.now)
