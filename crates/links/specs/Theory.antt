-- The links of a table as links of the ledger. Assumes nothing.
use Rattle.std.specs.Prelude.{◌≡◌, ℕ, ◌<◌, ◌↔◌, List, [], map, length}
use Rattle.std.specs.List.{ContainsAt as Has}
use Rattle.paths.specs.Kind.{Kind}
use Rattle.paths.specs.Ledger.{Ledger, Leads, OneEach}
use Rattle.paths.specs.Ledger.{Link as Arrow}
use Rattle.paths.specs.Calls.{next, link, unlink, discard}
use Rattle.links.specs.declared.row.LinkRow.{LinkRow}
use Rattle.links.specs.declared.row.Heads.{Heads}
use Rattle.links.specs.declared.row.Tally.{Tally}
use Rattle.links.specs.declared.row.Link.{Link}
use Rattle.links.specs.Table.{links, Kept}
use Rattle.links.specs.Links.{AsMany, Gained, Lost, Shut}

-- a link whose row of a passage means the passage `leads` of it
abbrev pub arrow : {R P : Type 0} → (R → P) → Link R → Arrow P
arrow leads l = record { source = l.source.0; target = l.target.0; passage = leads l.passage }

abbrev pub arrows : {R P : Type 0} → (R → P) → List (Link R) → List (Arrow P)
arrows leads xs = map (arrow leads) xs

-- the same links, as many that pass any test
pub record Alike {P : Type 0} (xs ys : List (Arrow P)) : Type 0 where
  pub members : (u v : ℕ) (t : P) → Leads xs u v t ↔ Leads ys u v t
  pub number : AsMany xs ys

-- the links of a table in order are links of the ledger, at most one from one place to another, between places of the table;
-- and what the calls make of them is what they make of the ledger's
pub record Follows (R V P : Type 0) : Type 0 where
  pub members : (leads : R → P) (xs : List (Link R)) (u v : ℕ) (t : P) →
      Leads (arrows leads xs) u v t ↔ ((l : Link R) × Has xs l × (l.source.0 ≡ u) × (l.target.0 ≡ v) × (leads l.passage ≡ t))
  pub one_each : (leads : R → P) (rows : List (LinkRow R)) (heads : List Heads) (tally : Tally) → Kept rows heads tally → OneEach (arrows leads (links rows))
  pub inside : (rows : List (LinkRow R)) (heads : List Heads) (tally : Tally) → Kept rows heads tally → (l : Link R) → Has (links rows) l → (l.source.0 < length heads) × (l.target.0 < length heads)
  pub empty : (leads : R → P) → Alike (arrows leads []) []
  pub gains : (k : Kind V P) (g : Ledger V P) (leads : R → P) (xs ys : List (Link R)) (l : Link R) → Gained xs ys l → Alike (arrows leads xs) g.links →
      Alike (arrows leads ys) (next k g (link l.source.0 l.target.0 (leads l.passage))).links
  pub loses : (k : Kind V P) (g : Ledger V P) (leads : R → P) (xs ys : List (Link R)) (u v : ℕ) → Lost xs ys u v → Alike (arrows leads xs) g.links →
      Alike (arrows leads ys) (next k g (unlink u v)).links
  pub shuts : (k : Kind V P) (g : Ledger V P) (leads : R → P) (xs ys : List (Link R)) (p : ℕ) → Shut xs ys p → Alike (arrows leads xs) g.links →
      Alike (arrows leads ys) (next k g (discard p)).links
