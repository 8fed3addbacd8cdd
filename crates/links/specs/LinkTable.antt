-- What a link table holds, and how large it is. Assumes nothing.
use Rattle.std.specs.Prelude.{◌≡◌, ℕ, List, vec_len}
use Rattle.links.specs.declared.row.Link.{Link}
use Rattle.links.specs.declared.table.LinkTable.{LinkTable}
use Rattle.links.specs.Table.{links}

-- the links that a table holds
abbrev pub held : {R : Type 0} → LinkTable R → List (Link R)
held t = links t.rows.items

-- how many places its links may lead between, and how many links there is room for
abbrev pub places : {R : Type 0} → LinkTable R → ℕ
places t = vec_len t.heads

abbrev pub capacity : {R : Type 0} → LinkTable R → ℕ
capacity t = vec_len t.rows

-- a table as large as another
abbrev pub SameSizes : {R : Type 0} → LinkTable R → LinkTable R → Type 0
SameSizes t u = (capacity u ≡ capacity t) × (places u ≡ places t)
