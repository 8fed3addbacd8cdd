use Rattle.std.proofs.Common.{refl, arith}
use Rattle.links.specs.Table.{no_heads}
use Rattle.links.proofs.threads.behead.Goals as goal

pub returns : goal.returns
returns c = λ p l. c.fill.ensures.clones p no_heads (omega (arith, c.fill.auto.self)) refl
