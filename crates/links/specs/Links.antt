-- The links that a table holds, and what the calls make of them: all that is said of a table above this crate. The order in which links stand is free. Assumes nothing.
use Rattle.std.specs.Prelude.{◌≡◌, ℕ, Bool, not, ◌&&◌, ◌⊎◌, ◌↔◌, List, ◌∷◌, length, filter, ◌==◌, ◌≢◌}
use Rattle.std.specs.List.{ContainsAt as Has}
use Rattle.links.specs.declared.row.Link.{Link}

-- as many of xs as of ys pass any test
abbrev pub AsMany : {X : Type 0} → List X → List X → Type 0
AsMany {X} xs ys = (test : X → Bool) → length (filter test xs) ≡ length (filter test ys)

-- the link leads from u to v; the link leads to p
abbrev pub joins : {R : Type 0} → ℕ → ℕ → Link R → Bool
joins u v l = l.source.0 == u && l.target.0 == v

abbrev pub enters : {R : Type 0} → ℕ → Link R → Bool
enters p l = l.target.0 == p

-- ys are the links xs and the link l
pub record Gained {R : Type 0} (xs ys : List (Link R)) (l : Link R) : Type 0 where
  pub members : (m : Link R) → Has ys m ↔ ((m ≡ l) ⊎ Has xs m)
  pub number : AsMany ys (l ∷ xs)

-- ys are the links xs but for those from u to v
pub record Lost {R : Type 0} (xs ys : List (Link R)) (u v : ℕ) : Type 0 where
  pub members : (m : Link R) → Has ys m ↔ (Has xs m × (m.source.0 ≡ u → m.target.0 ≢ v))
  pub number : AsMany ys (filter (λ m. not (joins u v m)) xs)

-- ys are the links xs but for those that enter p
pub record Shut {R : Type 0} (xs ys : List (Link R)) (p : ℕ) : Type 0 where
  pub members : (m : Link R) → Has ys m ↔ (Has xs m × (m.target.0 ≢ p))
  pub number : AsMany ys (filter (λ m. not (enters p m)) xs)
