use Rattle.std.proofs.Common.{subst}
use Rattle.links.specs.Table.{Leads, links}
use Rattle.links.proofs.Lends.{kept_lent}
use Rattle.links.proofs.table.LinkTable.get.Goals as goal

pub find-requires-clause-sound : goal.find-requires-clause-sound
find-requires-clause-sound g c = kept_lent c.args.self.now _ _ c.deref.ensures.value c.deref-2.ensures.value

pub link_at-requires : goal.link_at-requires
link_at-requires g c = kept_lent c.args.self.now _ _ c.deref-3.ensures.value c.deref-4.ensures.value

pub returns-in_err-s : goal.returns-in_err-s
returns-in_err-s g c = rw c.from_residual.ensures (subst (λ rows. Leads (links rows) c.args.source.0 c.args.target.0 → ⊥) c.deref.ensures.value c.in_err-s.ensures)
