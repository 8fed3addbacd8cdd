-- What a lent graph says: its links, its ranks, its places in rising rank, and how many places it has. Assumes nothing.
use Rattle.std.specs.Prelude.{ℕ, List}
use Rattle.common.specs.declared.number.PlaceNumber.{PlaceNumber}
use Rattle.common.specs.declared.number.Rank.{Rank}
use Rattle.links.specs.declared.row.Link.{Link}
use Rattle.links.specs.Table.{links}
use Rattle.recompute.specs.declared.lent.LentGraph.{LentGraph}

abbrev pub size : {R : Type 0} → LentGraph R → ℕ
size g = g.places

abbrev pub linked : {R : Type 0} → LentGraph R → List (Link R)
linked g = links g.rows.now

abbrev pub ranks_of : {R : Type 0} → LentGraph R → List Rank
ranks_of g = g.ranks.now

abbrev pub order_of : {R : Type 0} → LentGraph R → List PlaceNumber
order_of g = g.order.now
