-- What an edit makes of the columns. Assumes nothing.
use Rattle.std.specs.Prelude.{◌≡◌, ℕ, ◌+◌, ◌≤◌, List, length, vec_items, vec_len}
use Rattle.common.specs.declared.number.PlaceNumber.{PlaceNumber}
use Rattle.paths.specs.Ledger.{Path}
use Rattle.paths.specs.Walk.{Put}
use Rattle.kinds.specs.Meanings.{Meaning}
use Rattle.links.specs.declared.row.Link.{Link}
use Rattle.links.specs.Links.{Gained, Lost}
use Rattle.order.specs.Admit.{Admitted}
use Rattle.order.specs.Tables.{links_in}
use Rattle.recompute.specs.Tables.{value_in, Recomputes}
use Rattle.tables.specs.declared.columns.Columns.{Columns}
use Rattle.tables.specs.Graph.{size, linked, ranks_of, order_of, SameGraph, SameSpace, SameRanks}

-- the columns have the room that they had
pub record SameRoom {R S : Type 0} (old new : Columns R S) : Type 0 where
  pub present : vec_len new.tables.now.present ≡ vec_len old.tables.now.present
  pub own : vec_len new.tables.now.own ≡ vec_len old.tables.now.own
  pub labels : vec_len new.tables.now.labels ≡ vec_len old.tables.now.labels
  pub graph : SameSpace old new
  pub marks : vec_items new.tables.now.marks ≡ vec_items old.tables.now.marks

module _ {K P R S : Type 0} (means : Meaning K P R S) where
  -- what the first places of the graph have
  abbrev pub values_of : Columns R S → List R → ℕ → means.Value
  values_of t rows = value_in means (size t) rows

  -- the own label of p is x, the labels are recomputed, and nothing else is changed
  pub record Owned (p : ℕ) (x : means.Value) (old new : Columns R S) (list : List PlaceNumber) (counts : ℕ × ℕ) : Type 0 where
    pub room : SameRoom old new
    pub present : new.tables.now.present ≡ old.tables.now.present
    pub graph : SameGraph old new
    pub own : Put (values_of old (vec_items old.tables.now.own)) (values_of old (vec_items new.tables.now.own)) p x
    pub labels : Recomputes means (size old) (vec_items new.tables.now.own) (linked old) (ranks_of old) p (vec_items old.tables.now.labels) (vec_items new.tables.now.labels) list counts

  -- the link from u to v is gone, the labels are recomputed, and nothing else is changed
  pub record Unlinked (u v : ℕ) (old new : Columns R S) (list : List PlaceNumber) (counts : ℕ × ℕ) : Type 0 where
    pub room : SameRoom old new
    pub present : new.tables.now.present ≡ old.tables.now.present
    pub own : new.tables.now.own ≡ old.tables.now.own
    pub ranks : SameRanks old new
    pub lost : Lost (linked old) (linked new) u v
    pub fewer : length (linked new) ≤ length (linked old)
    pub labels : Recomputes means (size old) (vec_items old.tables.now.own) (linked new) (ranks_of new) v (vec_items old.tables.now.labels) (vec_items new.tables.now.labels) list counts

  -- the link l is there, the ranks have moved by the rule, the labels are recomputed, and nothing else is changed
  pub record Linked (l : Link S) (old new : Columns R S) (list : List PlaceNumber) (counts : ℕ × ℕ) : Type 0 where
    pub gained : Gained (linked old) (linked new) l
    pub ranks : Admitted (size old) (linked old) l.source.0 l.target.0 (ranks_of old) (ranks_of new) (order_of old) (order_of new)
    pub labels : Recomputes means (size old) (vec_items old.tables.now.own) (linked new) (ranks_of new) l.target.0 (vec_items old.tables.now.labels) (vec_items new.tables.now.labels) list counts

-- a path leads from v to u, and the columns hold what they held
pub record Circles {R S : Type 0} (u v : ℕ) (old new : Columns R S) : Type 0 where
  pub path : Path (links_in (linked old)) v u
  pub labels : new.tables.now.labels ≡ old.tables.now.labels
  pub graph : SameGraph old new

-- what a link leaves as it was, refused or not
pub record Steady {R S : Type 0} (old new : Columns R S) : Type 0 where
  pub room : SameRoom old new
  pub present : new.tables.now.present ≡ old.tables.now.present
  pub own : new.tables.now.own ≡ old.tables.now.own
  pub few : length (linked new) ≤ length (linked old) + 1
