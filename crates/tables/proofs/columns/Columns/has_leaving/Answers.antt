use Rattle.std.specs.Prelude.{◌↔◌}
use Rattle.std.proofs.Common.{◌≡◌, ℕ, true, subst}
use Rattle.links.specs.Table.{Leads, links}
use Rattle.tables.proofs.columns.Columns.has_leaving.Goals as goal

pub returns : goal.returns
returns g c = subst (λ rows. (c.leaves.result ≡ true) ↔ ((v : ℕ) × Leads (links rows) c.args.p.0 v)) c.as_slice.ensures.value c.leaves.ensures
