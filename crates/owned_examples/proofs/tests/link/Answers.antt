use Rattle.std.proofs.Common.{sym, subst}
use Rattle.links.specs.Table.{Leads, links}
use Rattle.owned_examples.proofs.tests.link.Goals as goal

pub link_in-requires-clause-fresh : goal.link_in-requires-clause-fresh
link_in-requires-clause-fresh c = λ h. c.in-None.ensures (subst (λ rows. Leads (links rows) c.args.u.0 c.args.v.0) (sym c.as_slice-rows.ensures.value) h)
