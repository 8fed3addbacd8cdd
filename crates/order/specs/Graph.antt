-- What a graph says: its links, its ranks, its places in rising rank, and how many places it has. Assumes nothing.
use Rattle.std.specs.Prelude.{◌≡◌, ℕ, ◌≤◌, List, vec_items, vec_len}
use Rattle.common.specs.declared.number.PlaceNumber.{PlaceNumber}
use Rattle.common.specs.declared.number.Rank.{Rank}
use Rattle.links.specs.declared.row.Link.{Link}
use Rattle.links.specs.LinkTable.{held, places, capacity, SameSizes}
use Rattle.order.specs.declared.graph.Graph.{Graph}

abbrev pub size : {R : Type 0} → Graph R → ℕ
size g = g.places

abbrev pub linked : {R : Type 0} → Graph R → List (Link R)
linked g = held g.links

abbrev pub ranks_of : {R : Type 0} → Graph R → List Rank
ranks_of g = vec_items g.ranks

abbrev pub order_of : {R : Type 0} → Graph R → List PlaceNumber
order_of g = vec_items g.order

-- both tables of ranks are the same, to their room
abbrev pub SameRanks : {R : Type 0} → Graph R → Graph R → Type 0
SameRanks g h = (h.ranks ≡ g.ranks) × (h.order ≡ g.order)

-- how many places there is room for links at, and how many links there is room for
abbrev pub place_room : {R : Type 0} → Graph R → ℕ
place_room g = places g.links

abbrev pub link_room : {R : Type 0} → Graph R → ℕ
link_room g = capacity g.links

-- the tables have room for n places and m links
abbrev pub RoomFor : {R : Type 0} → Graph R → ℕ → ℕ → Type 0
RoomFor g n m = (n ≤ vec_len g.ranks) × (n ≤ vec_len g.order) × (n ≤ places g.links) × (m ≤ capacity g.links)

-- h has as many places as g, and its tables are as long
pub record SameSpace {R : Type 0} (g h : Graph R) : Type 0 where
  pub size : size h ≡ size g
  pub ranks : vec_len h.ranks ≡ vec_len g.ranks
  pub order : vec_len h.order ≡ vec_len g.order
  pub links : SameSizes g.links h.links
