-- What a new link does to the ranks. Assumes nothing.
use Rattle.std.specs.Prelude.{◌≡◌, ℕ, ◌<◌, ◌≤◌, Bool, true, ◌↔◌, List}
use Rattle.common.specs.declared.number.PlaceNumber.{PlaceNumber}
use Rattle.common.specs.declared.number.Rank.{Rank}
use Rattle.paths.specs.Ledger.{Path}
use Rattle.paths.specs.Ledger.{Link as Arrow}
use Rattle.paths.specs.Order.{moved}
use Rattle.links.specs.declared.row.Link.{Link}
use Rattle.order.specs.Tables.{rank_in, order_in, links_in, Ordered, Past}

-- new is the order that a link from u to v makes of old: the forward set is every place reached from v through ranks at most u's,
-- and the ranks from v's to u's are shared out again, the forward set last
pub record Reordered {P : Type 0} (links : List (Arrow P)) (rank : ℕ → ℕ) (n u v : ℕ) (old new : List ℕ) : Type 0 where
  pub forward : ℕ → Bool
  pub reached : (p : ℕ) → p < n → rank p ≤ rank u → (forward p ≡ true) ↔ Path links v p
  pub order : new ≡ moved forward (rank v) (rank u) old

-- the link closes no circle, and the tables went from ranks and places to ranks' and places'
pub record Admitted {R : Type 0} (n : ℕ) (links : List (Link R)) (u v : ℕ) (ranks ranks' : List Rank) (places places' : List PlaceNumber) : Type 0 where
  pub clear : Path (links_in links) v u → ⊥
  pub still : rank_in ranks u < rank_in ranks v → (ranks' ≡ ranks) × (places' ≡ places)
  pub moves : rank_in ranks v ≤ rank_in ranks u → Reordered (links_in links) (rank_in ranks) n u v (order_in n places) (order_in n places')
  pub sound : Ordered n ranks' places' links
  pub rises : rank_in ranks' u < rank_in ranks' v
  pub past : Past n ranks ranks' places places'

-- the link closes a circle, and nothing changed
pub record Circular {R : Type 0} (links : List (Link R)) (u v : ℕ) (ranks ranks' : List Rank) (places places' : List PlaceNumber) : Type 0 where
  pub path : Path (links_in links) v u
  pub ranks_stay : ranks' ≡ ranks
  pub places_stay : places' ≡ places
