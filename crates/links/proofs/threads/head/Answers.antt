use Rattle.std.proofs.Common.{ℕ, get_or, ap, ◌∙◌}
use Rattle.links.specs.Table.{head_of, no_heads}
use Rattle.links.proofs.threads.head.Goals as goal

pub returns : goal.returns
returns c = c.on.ensures ∙ ap (λ (i : ℕ). head_of c.args.side (get_or c.args.heads.now i no_heads)) c.index.ensures
