-- The graph in the columns of a store: its links, its ranks, its places in rising rank, and how many places it has. Assumes nothing.
use Rattle.std.specs.Prelude.{◌≡◌, ℕ, List, vec_items, vec_len}
use Rattle.common.specs.declared.number.PlaceNumber.{PlaceNumber}
use Rattle.common.specs.declared.number.Rank.{Rank}
use Rattle.links.specs.declared.row.Link.{Link}
use Rattle.links.specs.Table.{links}
use Rattle.tables.specs.declared.columns.Columns.{Columns}

abbrev pub size : {R S : Type 0} → Columns R S → ℕ
size c = c.places

abbrev pub linked : {R S : Type 0} → Columns R S → List (Link S)
linked c = links (vec_items c.tables.now.links)

abbrev pub ranks_of : {R S : Type 0} → Columns R S → List Rank
ranks_of c = vec_items c.tables.now.ranks

abbrev pub order_of : {R S : Type 0} → Columns R S → List PlaceNumber
order_of c = vec_items c.tables.now.order

-- how many links there is room for
abbrev pub link_room : {R S : Type 0} → Columns R S → ℕ
link_room c = vec_len c.tables.now.links

-- both tables of ranks are the same, to their room
abbrev pub SameRanks : {R S : Type 0} → Columns R S → Columns R S → Type 0
SameRanks c d = (d.tables.now.ranks ≡ c.tables.now.ranks) × (d.tables.now.order ≡ c.tables.now.order)

-- the tables of links are the same, to their room
abbrev pub SameLinks : {R S : Type 0} → Columns R S → Columns R S → Type 0
SameLinks c d = (d.tables.now.links ≡ c.tables.now.links) × (d.tables.now.heads ≡ c.tables.now.heads) × (d.tally ≡ c.tally)

-- the graph is the same
pub record SameGraph {R S : Type 0} (c d : Columns R S) : Type 0 where
  pub size : size d ≡ size c
  pub ranks : SameRanks c d
  pub links : SameLinks c d

-- d has as many places as c, and the tables of its graph are as long
pub record SameSpace {R S : Type 0} (c d : Columns R S) : Type 0 where
  pub size : size d ≡ size c
  pub ranks : vec_len d.tables.now.ranks ≡ vec_len c.tables.now.ranks
  pub order : vec_len d.tables.now.order ≡ vec_len c.tables.now.order
  pub heads : vec_len d.tables.now.heads ≡ vec_len c.tables.now.heads
  pub links : vec_len d.tables.now.links ≡ vec_len c.tables.now.links

-- which places are present, their own labels and their labels are the same
pub record SamePlaces {R S : Type 0} (c d : Columns R S) : Type 0 where
  pub present : d.tables.now.present ≡ c.tables.now.present
  pub own : d.tables.now.own ≡ c.tables.now.own
  pub labels : d.tables.now.labels ≡ c.tables.now.labels

-- they are columns of the same tables, whatever these hold
abbrev pub SameLoan : {R S : Type 0} → Columns R S → Columns R S → Type 0
SameLoan c d = d.tables.ghost_name ≡ c.tables.ghost_name
