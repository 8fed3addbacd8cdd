-- The sizes of a store's tables. Assumes nothing.
use Rattle.std.specs.Prelude.{ℕ, ◌≤◌, vec_len}
use Rattle.tables.specs.declared.tables.Tables.{Tables}

-- a store may have 1 to 4096 places and 1 to 16384 links
abbrev pub Limits : ℕ → ℕ → Type 0
Limits n m = (1 ≤ n) × (n ≤ 4096) × (1 ≤ m) × (m ≤ 16384)

-- each place table and the mark table have room for n places, and the link table for m links
abbrev pub Room : {R S : Type 0} → Tables R S → ℕ → ℕ → Type 0
Room t n m =
    (((n ≤ vec_len t.present) × (n ≤ vec_len t.marks)) × ((n ≤ vec_len t.own) × (n ≤ vec_len t.labels))) ×
    (((n ≤ vec_len t.ranks) × (n ≤ vec_len t.order)) × ((n ≤ vec_len t.heads) × (m ≤ vec_len t.links)))
