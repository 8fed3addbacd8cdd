-- What a store says: what its columns say, and its permit. Assumes nothing.
use Rattle.std.specs.Prelude.{Some, None, Option}
use Rattle.std.specs.declared.cmp.PartialEq.{Ghosts as Eqs}
use Rattle.kinds.specs.declared.kind.LabelKind.{Ghosts}
use Rattle.kinds.specs.Meanings.{Meaning}
use Rattle.law.specs.Calls.{Permit, none, out}
use Rattle.law.specs.State.{State}
use Rattle.tables.specs.View.{state_of}
use Rattle.store.specs.declared.grant.Grant.{Grant}
use Rattle.store.specs.declared.store.Store.{Store}

-- the permit that is out
abbrev pub permit_in : Option Grant → Permit
permit_in None = none
permit_in (Some g) = out g.place.0 g.day.number

module _ {K P R S : Type 0} (m : Meaning K P R S) where
  abbrev pub view : {G : Ghosts K P R S} {E : Eqs K} → Store K P R S G E → State m.Value P
  view s = state_of m s.n s.m (permit_in s.permit) s.columns
