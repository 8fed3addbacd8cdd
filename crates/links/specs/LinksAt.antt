-- The links at a place, one after another. Assumes nothing.
use Rattle.std.specs.Prelude.{◌≡◌, ℕ, zero, suc, ◌<◌, ◌↔◌, List, [], ◌∷◌, Option, Some, None}
use Rattle.std.specs.List.{ContainsAt as Has}
use Rattle.links.specs.declared.row.Link.{Link}
use Rattle.links.specs.declared.row.LinkRow.{LinkRow}
use Rattle.links.specs.declared.row.Side.{Side}
use Rattle.links.specs.declared.table.links_at.LinksAt.{LinksAt}
use Rattle.links.specs.Table.{at, next, link_at, end_of, key_of, above}

-- links by rising number of the other end: none twice
abbrev pub Rising : {R : Type 0} → Side → List (Link R) → Type 0
Rising side [] = Unit {0}
Rising {R} side (x ∷ xs) = ((m : Link R) → Has xs m → key_of side x < key_of side m) × Rising side xs

-- ys are those of the links xs that a side of p sees, each once, by rising number of the other end; they lead between n places
pub record LinksOf {R : Type 0} (side : Side) (xs : List (Link R)) (n p : ℕ) (ys : List (Link R)) : Type 0 where
  pub members : (m : Link R) → Has ys m ↔ (Has xs m × (end_of side m ≡ p))
  pub rising : Rising side ys
  pub inside : (m : Link R) → Has ys m → (m.source.0 < n) × (m.target.0 < n)

-- the first link, if there is one, and then the others
abbrev pub then : {R : Type 0} → Option (Link R) → List (Link R) → List (Link R)
then None xs = []
then (Some l) xs = l ∷ xs

-- the links of a thread from the slot s on, n at most
abbrev pub onward : {R : Type 0} → Side → List (LinkRow R) → ℕ → ℕ → List (Link R)
onward side rows zero s = []
onward side rows (suc n) s = then (link_at rows s) (onward side rows n (next side (at rows s)))

-- the links that are still to come
unfoldable pub rest : {R : Type 0} → LinksAt R → List (Link R)
rest it = onward it.side it.rows.now (above it.side it.rows.now) it.at.0
