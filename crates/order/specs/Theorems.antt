-- The statements that contracts name. Assumes nothing.
use Rattle.std.specs.Prelude.{◌≡◌, ℕ, ◌^◌, ◌<◌, ◌≤◌, ◌↔◌, List, [], ◌∷◌, length}
use Rattle.common.specs.declared.number.PlaceNumber.{PlaceNumber}
use Rattle.common.specs.declared.number.Rank.{Rank}
use Rattle.paths.specs.Ledger.{Path}
use Rattle.paths.specs.Ledger.{Link as Arrow}
use Rattle.paths.specs.Equations.{Topological}
use Rattle.paths.specs.Order.{Ranked}
use Rattle.links.specs.declared.row.Link.{Link}
use Rattle.links.specs.Links.{Gained, Lost, Shut}
use Rattle.links.specs.Theory.{arrows, Alike}
use Rattle.order.specs.Tables.{rank_in, place_in, links_in, Ordered}
use Rattle.order.specs.Sharing.{Below}
use Rattle.order.specs.Admit.{Reordered}

-- the rule makes one order
abbrev pub OneOrder : Type 0 → Type 0
OneOrder P =
    (links : List (Arrow P)) (rank : ℕ → ℕ) (n u v : ℕ) (old : List ℕ) → Ranked rank old → length old ≡ n → Below n old → v < n → u < n → rank v ≤ rank u →
    (new new' : List ℕ) → Reordered links rank n u v old new → Reordered links rank n u v old new' → new ≡ new'

-- six places, place p with rank p, and links 0 to 4 and 1 to 3
abbrev pub specimen_links : List (Arrow (Unit {0}))
specimen_links = record { source = 0; target = 4; passage = tt } ∷ record { source = 1; target = 3; passage = tt } ∷ []

abbrev pub specimen_order : List ℕ
specimen_order = 0 ∷ 1 ∷ 2 ∷ 3 ∷ 4 ∷ 5 ∷ []

-- linking 4 to 1 has an order, and under it place 2 has rank 1, place 4 rank 2, place 1 rank 3, place 3 rank 4, and the others keep theirs
pub record Specimen : Type 0 where
  pub some : (new : List ℕ) × Reordered specimen_links (λ p. p) 6 4 1 specimen_order new
  pub each : (new : List ℕ) (rank : ℕ → ℕ) → Reordered specimen_links (λ p. p) 6 4 1 specimen_order new → Ranked rank new →
      (rank 0 ≡ 0) × (rank 2 ≡ 1) × (rank 4 ≡ 2) × (rank 1 ≡ 3) × (rank 3 ≡ 4) × (rank 5 ≡ 5)

-- tables with place p at rank p are in order, and they stay so as links that rise come and others go
pub record KeepsOrder (R : Type 0) : Type 0 where
  pub first : (n : ℕ) (ranks : List Rank) (places : List PlaceNumber) → n < 2 ^ 31 → n ≤ length ranks → n ≤ length places →
      ((p : ℕ) → p < n → rank_in ranks p ≡ p) → ((r : ℕ) → r < n → place_in places r ≡ r) → Ordered {R = R} n ranks places []
  pub gains : (n : ℕ) (ranks : List Rank) (places : List PlaceNumber) (xs ys : List (Link R)) (l : Link R) → Ordered n ranks places xs → Gained xs ys l →
      l.source.0 < n → l.target.0 < n → rank_in ranks l.source.0 < rank_in ranks l.target.0 → Ordered n ranks places ys
  pub loses : (n : ℕ) (ranks : List Rank) (places : List PlaceNumber) (xs ys : List (Link R)) (u v : ℕ) → Ordered n ranks places xs → Lost xs ys u v → Ordered n ranks places ys
  pub shuts : (n : ℕ) (ranks : List Rank) (places : List PlaceNumber) (xs ys : List (Link R)) (p : ℕ) → Ordered n ranks places xs → Shut xs ys p → Ordered n ranks places ys

-- what is said of paths, ranks and the rule over a table's links holds over the ledger's, whatever the rows of the passages mean
pub record SamePaths (R P : Type 0) : Type 0 where
  pub paths : (leads : R → P) (xs : List (Link R)) (gs : List (Arrow P)) → Alike (arrows leads xs) gs → (v p : ℕ) → Path (links_in xs) v p ↔ Path gs v p
  pub rises : (leads : R → P) (xs : List (Link R)) (gs : List (Arrow P)) → Alike (arrows leads xs) gs → (rank : ℕ → ℕ) → Topological rank (links_in xs) ↔ Topological rank gs
  pub moves : (leads : R → P) (xs : List (Link R)) (gs : List (Arrow P)) → Alike (arrows leads xs) gs → (rank : ℕ → ℕ) (n u v : ℕ) (old new : List ℕ) →
      Reordered (links_in xs) rank n u v old new ↔ Reordered gs rank n u v old new
