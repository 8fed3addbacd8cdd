use Rattle.std.proofs.Common.{length, ap, ◌∙◌}
use Rattle.links.specs.Table.{links}
use Rattle.links.proofs.Lends.{kept_lent}
use Rattle.links.proofs.table.LinkTable.len.Goals as goal

pub count-requires : goal.count-requires
count-requires g c = kept_lent c.args.self.now _ _ c.deref.ensures.value c.deref-2.ensures.value

pub returns : goal.returns
returns g c = c.count.ensures ∙ ap (λ rows. length (links rows)) c.deref.ensures.value
