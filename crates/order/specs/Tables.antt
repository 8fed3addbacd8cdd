-- What the tables say: the ranks, the places in rising rank, the links and the marks. Assumes nothing.
use Rattle.std.specs.Prelude.{◌≡◌, ℕ, ◌^◌, ◌<◌, ◌≤◌, Bool, true, List, map, length, take, ◌==◌, slice_index}
use Rattle.common.specs.declared.number.PlaceNumber.{PlaceNumber}
use Rattle.common.specs.declared.number.Rank.{Rank}
use Rattle.paths.specs.Ledger.{Leads}
use Rattle.paths.specs.Ledger.{Link as Arrow}
use Rattle.paths.specs.Equations.{Topological}
use Rattle.paths.specs.Order.{Ranked}
use Rattle.links.specs.declared.row.Link.{Link}
use Rattle.links.specs.Theory.{arrows}

-- the rank of a place, and the place of a rank
abbrev pub rank_in : List Rank → ℕ → ℕ
rank_in ranks p = slice_index (map (λ (r : Rank). r.0) ranks) p

abbrev pub place_in : List PlaceNumber → ℕ → ℕ
place_in places r = slice_index (map (λ (p : PlaceNumber). p.0) places) r

-- the first n places in rising rank
abbrev pub order_in : ℕ → List PlaceNumber → List ℕ
order_in n places = take n (map (λ (p : PlaceNumber). p.0) places)

-- the links, with the rows of their passages
abbrev pub links_in : {R : Type 0} → List (Link R) → List (Arrow R)
links_in links = arrows (λ t. t) links

-- whether the mark of a place is set, and the same of the first n places alone
abbrev pub is_set : List ℕ → ℕ → Bool
is_set marks p = slice_index marks p == 1

abbrev pub marked_in : ℕ → List ℕ → ℕ → Bool
marked_in n marks p = is_set (take n marks) p

-- every link leads from one of the first n places to another
abbrev pub Inside : {P : Type 0} → ℕ → List (Arrow P) → Type 0
Inside {P} n links = (p q : ℕ) (t : P) → Leads links p q t → (p < n) × (q < n)

-- a link leads to p from a marked place
abbrev pub Entered : {P : Type 0} → List (Arrow P) → (ℕ → Bool) → ℕ → Type 0
Entered {P} links marked p = (q : ℕ) × (t : P) × Leads links q p t × (marked q ≡ true)

-- the tables give each of n places a rank of its own, and every link leads from a lower rank to a higher
pub record Sound {R : Type 0} (n : ℕ) (ranks : List Rank) (places : List PlaceNumber) (links : List (Link R)) : Type 0 where
  pub few : n < 2 ^ 31
  pub long : n ≤ length ranks
  pub wide : n ≤ length places
  pub ranked : Ranked (rank_in ranks) (order_in n places)
  pub below : (r : ℕ) → r < n → slice_index (order_in n places) r < n
  pub inside : Inside n (links_in links)
  pub rising : Topological (rank_in ranks) (links_in links)

-- the same as a fact that a struct can hold
abbrev pub Ordered : {R : Type 0} → ℕ → List Rank → List PlaceNumber → List (Link R) → Type 0
Ordered n ranks places links = ∥ Sound n ranks places links ∥₁

-- the entries past the first n stay
pub record Past (n : ℕ) (ranks ranks' : List Rank) (places places' : List PlaceNumber) : Type 0 where
  pub ranks_stay : (p : ℕ) → n ≤ p → rank_in ranks' p ≡ rank_in ranks p
  pub places_stay : (r : ℕ) → n ≤ r → place_in places' r ≡ place_in places r
