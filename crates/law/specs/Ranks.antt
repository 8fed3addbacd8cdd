-- The ranks by the rule: the order of the places, fed by the calls. Assumes nothing.
use Rattle.std.specs.Prelude.{◌≡◌, ℕ, ◌<◌, ◌≤◌, Bool, true, false, List, [], ◌∷◌}
use Rattle.paths.specs.Kind.{Kind}
use Rattle.paths.specs.Ledger.{Link, Ledger}
use Rattle.paths.specs.Calls.{at_first}
use Rattle.paths.specs.Order.{upto, rank_in, moved}
use Rattle.paths.specs.Search.{Forward}
use Rattle.law.specs.Calls.{Call, bring, own, link, unlink, label, explain, list, grant, renew, give_back, discard, accepted, Event, then}

-- new is the order that a link from u to v, where u has not the lower rank, makes of old: the ranks from v's to u's are shared out again,
-- to the places outside the forward set of v and then to those in it, each in the order met
pub record Reordered {P : Type 0} (links : List (Link P)) (u v : ℕ) (old new : List ℕ) : Type 0 where
  pub forward : ℕ → Bool
  pub reached : Forward links (rank_in old) v u forward
  pub order : new ≡ moved forward (rank_in old v) (rank_in old u) old

-- a new link from u to v moves no rank where u has the lower rank
pub record LinkMoves {P : Type 0} (links : List (Link P)) (u v : ℕ) (old new : List ℕ) : Type 0 where
  pub still : rank_in old u < rank_in old v → new ≡ old
  pub moves : rank_in old v ≤ rank_in old u → Reordered links u v old new

-- what an accepted call makes of the order; links are those before it. Nothing but a link moves a rank
abbrev pub Shifts : {V P : Type 0} → List (Link P) → Call V P → List ℕ → List ℕ → Type 0
Shifts links (bring p) old new = new ≡ old
Shifts links (own p x room) old new = new ≡ old
Shifts links (link u v t room) old new = LinkMoves links u v old new
Shifts links (unlink u v room) old new = new ≡ old
Shifts links (label p) old new = new ≡ old
Shifts links (explain p d room) old new = new ≡ old
Shifts links (list d room) old new = new ≡ old
Shifts links (grant p d) old new = new ≡ old
Shifts links (renew p d day) old new = new ≡ old
Shifts links (give_back p d) old new = new ≡ old
Shifts links (discard p d) old new = new ≡ old

-- the same for any call
abbrev pub Shifted : {V P : Type 0} → List (Link P) → Call V P → Bool → List ℕ → List ℕ → Type 0
Shifted links c true old new = Shifts links c old new
Shifted links c false old new = new ≡ old

-- a history, from the ledger g and the order o on, leads to the order o'
abbrev pub OrderFrom : {V P : Type 0} → Kind V P → Ledger V P → List ℕ → List (Event V P) → List ℕ → Type 0
OrderFrom k g o [] o' = o' ≡ o
OrderFrom k g o (e ∷ es) o' = (m : List ℕ) × Shifted g.links e.0 (accepted e.1) o m × OrderFrom k (then k g e) m es o'

-- the order of n places after a history, by the rule
abbrev pub OrderAfter : {V P : Type 0} → Kind V P → ℕ → List (Event V P) → List ℕ → Type 0
OrderAfter k n es o = OrderFrom k (at_first k) (upto n) es o
