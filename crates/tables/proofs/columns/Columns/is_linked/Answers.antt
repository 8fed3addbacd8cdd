use Rattle.std.specs.Prelude.{◌↔◌, is_some}
use Rattle.std.proofs.Common.{◌≡◌, ℕ, true, false, List, Some, None, Option, refl, subst}
use Rattle.std.proofs.lemmas.Bool.{both_ways}
use Rattle.links.specs.declared.row.LinkRow.{LinkRow}
use Rattle.links.specs.declared.row.Slot.{Slot}
use Rattle.links.specs.Table.{Leads, Found, links}
use Rattle.tables.proofs.columns.Columns.is_linked.Goals as goal

-- a slot was found exactly if there is a link
some_found : {S : Type 0} (rows : List (LinkRow S)) (u v : ℕ) (r : Option Slot) → Found rows u v r → (is_some r ≡ true) ↔ Leads (links rows) u v
some_found rows u v None none = (λ q. absurd (both_ways false refl q), λ h. absurd (none h))
some_found rows u v (Some s) f = (λ _. (f.0, f.1.2, f.2, f.3), λ _. refl)

pub returns : goal.returns
returns g c =
    rw c.is_some.ensures
    (subst (λ rows. (is_some c.find.result ≡ true) ↔ Leads (links rows) c.args.u.0 c.args.v.0) c.as_slice.ensures.value
    (some_found c.as_slice.result.now c.args.u.0 c.args.v.0 c.find.result c.find.ensures))
