-- The marks of a walk: which places are to be recomputed. Assumes nothing.
use Rattle.std.specs.Prelude.{◌≡◌, ℕ, ◌<◌, ◌≤◌, ◌⊎◌, ◌↔◌, List, take, slice_index}
use Rattle.common.specs.declared.number.PlaceNumber.{PlaceNumber}
use Rattle.common.specs.declared.number.Rank.{Rank}
use Rattle.paths.specs.Ledger.{Leads}
use Rattle.paths.specs.Ledger.{Link as Arrow}
use Rattle.paths.specs.Walk.{State, Progress}
use Rattle.kinds.specs.Meanings.{Meaning}
use Rattle.links.specs.declared.row.Link.{Link}
use Rattle.order.specs.Tables.{rank_in}
use Rattle.recompute.specs.declared.climb.Climb.{Climb}
use Rattle.recompute.specs.Tables.{numbers, value_in, arrows_in, ledger_in}

-- p is the edited place, or a link leads to it from a changed one
abbrev pub Due : {P : Type 0} → List (Arrow P) → ℕ → (ℕ → ℕ) → ℕ → Type 0
Due {P} links e changed p = (p ≡ e) ⊎ ((q : ℕ) × (t : P) × Leads links q p t × (changed q ≡ 1))

-- of the first n places those are marked that are due, and none has a rank above `last`
pub record Pending {P : Type 0} (links : List (Arrow P)) (ranks : List Rank) (n e : ℕ) (changed : ℕ → ℕ) (marks : List ℕ) (last : ℕ) : Type 0 where
  pub marked : (p : ℕ) → p < n → (slice_index marks p ≡ 1) ↔ Due links e changed p
  pub bound : (p : ℕ) → p < n → slice_index marks p ≡ 1 → rank_in ranks p ≤ last

module _ {L P R S : Type 0} (m : Meaning L P R S) where
  -- where a walk stands that has written some places to the list and counted some
  abbrev pub state_of : ℕ → List R → (ℕ → ℕ) → List PlaceNumber → ℕ × ℕ → State m.Value
  state_of n labels changed list done = record { labels = value_in m n labels; marks = changed; told = numbers (take done.0 list); changed = done.1 }

  -- a walk from the edited place e has come to the rank r, and is to go on to the rank `last`
  pub record Climbed (n : ℕ) (own : List R) (ranks : List Rank) (xs : List (Link S)) (e : ℕ) (before : List R) (r : ℕ) (walk : Climb) (labels : List R) (marks : List ℕ) (list : List PlaceNumber) : Type 0 where
    pub changed : ℕ → ℕ
    pub progress : Progress m.kind (ledger_in m n own xs) (rank_in ranks) n e (value_in m n before) r (state_of n labels changed list (walk.reported, walk.changed))
    pub pending : Pending (arrows_in m xs) ranks n e changed marks walk.last.0
