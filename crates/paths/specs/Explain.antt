-- The path that shows why a place is kept on a day. Assumes nothing.
use Rattle.std.specs.Prelude.{◌≡◌, ℕ, ◌≤◌, Bool, true, false, List, [], ◌∷◌, ◌++◌}
use Rattle.paths.specs.Kind.{Kind}
use Rattle.paths.specs.Ledger.{Link, Ledger, Leads, Path, at, over, along, contribution}

-- a path keeps its end place on a day: its contribution is not free then
abbrev pub KeepsEnd : {V P : Type 0} (k : Kind V P) (free : ℕ → V → Bool) (g : Ledger V P) (d : ℕ) {u p : ℕ} → Path g.links u p → Type 0
KeepsEnd k free g d π = free d (contribution k g π) ≡ false

-- a path with one link more in front
abbrev pub before : {P : Type 0} {links : List (Link P)} {u v p : ℕ} (t : P) → Leads links u v t → Path links v p → Path links u p
before t m at = over at t m
before t m (over π s n) = over (before t m π) s n

-- the places of a path, from its first
abbrev pub places : {P : Type 0} {links : List (Link P)} {u p : ℕ} → Path links u p → List ℕ
places {u = u} at = u ∷ []
places (over {q = q} π t m) = places π ++ (q ∷ [])

-- the label x, carried along the path, is not free on d
abbrev pub Kept : {V P : Type 0} (k : Kind V P) (free : ℕ → V → Bool) (d : ℕ) {links : List (Link P)} {u p : ℕ} → Path links u p → V → Type 0
Kept k free d π x = free d (along k π x) ≡ false

-- u is the lowest numbered source of a link into v whose label, carried over that link and the path, is not free on d
pub record Lowest {V P : Type 0} (k : Kind V P) (free : ℕ → V → Bool) (links : List (Link P)) (label : ℕ → V) (d : ℕ) {v p : ℕ} (π : Path links v p) (u : ℕ) (t : P) : Type 0 where
  pub leads : Leads links u v t
  pub keeps : Kept k free d π (k.carry t (label u))
  pub lowest : (w : ℕ) (s : P) → Leads links w v s → Kept k free d π (k.carry s (label w)) → u ≤ w

-- the search that works backward, from v with the path π found so far, ends with the path ρ
pub data Ends {V P : Type 0} (k : Kind V P) (free : ℕ → V → Bool) (g : Ledger V P) (label : ℕ → V) (d p : ℕ) : (v : ℕ) → Path g.links v p → (u : ℕ) → Path g.links u p → Type 0 where
  -- the current place's own label is not free along the path: it begins there
  begins : {v : ℕ} {π : Path g.links v p} → Kept k free d π (g.own v) → Ends k free g label d p v π v π
  -- otherwise it steps to the lowest such source
  steps : {v w u : ℕ} {π : Path g.links v p} {ρ : Path g.links u p} {t : P} → free d (along k π (g.own v)) ≡ true →
      (low : Lowest k free g.links label d π w t) → Ends k free g label d p w (before t low.leads π) u ρ → Ends k free g label d p v π u ρ

-- the path that explains why p is kept on d
abbrev pub Explains : {V P : Type 0} (k : Kind V P) (free : ℕ → V → Bool) (g : Ledger V P) (label : ℕ → V) (d p u : ℕ) → Path g.links u p → Type 0
Explains k free g label d p u ρ = Ends k free g label d p p at u ρ
