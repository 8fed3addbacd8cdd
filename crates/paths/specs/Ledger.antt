-- Places, links and paths, and the join over all paths into a place. Places are known by their numbers. Assumes nothing.
use Rattle.std.specs.Prelude.{◌≡◌, ℕ, ◌<◌, Bool, List}
use Rattle.std.specs.List.{ContainsAt as Has}
use Rattle.paths.specs.Kind.{Kind, Within}

-- a link leads from its source to its target and has a passage
pub record Link (P : Type 0) : Type 0 where
  pub source : ℕ
  pub target : ℕ
  pub passage : P

-- which places are present, the own label of each, and the links; only which links there are matters, not their order in the list
pub record Ledger (V P : Type 0) : Type 0 where
  pub present : ℕ → Bool
  pub own : ℕ → V
  pub links : List (Link P)

-- among the links is one from u to v with the passage t
abbrev pub Leads : {P : Type 0} → List (Link P) → ℕ → ℕ → P → Type 0
Leads links u v t = Has links (record { source = u; target = v; passage = t })

-- at most one link leads from one place to another
abbrev pub OneEach : {P : Type 0} → List (Link P) → Type 0
OneEach {P} links = (u v : ℕ) (t s : P) → Leads links u v t → Leads links u v s → t ≡ s

-- every link leads from and to one of the first n places
abbrev pub Inside : {P : Type 0} → ℕ → List (Link P) → Type 0
Inside {P} n links = (u v : ℕ) (t : P) → Leads links u v t → (u < n) × (v < n)

-- a path from u: the place u, followed by zero or more links end to end
pub data Path {P : Type 0} (links : List (Link P)) (u : ℕ) : ℕ → Type 0 where
  at : Path links u u
  over : {p q : ℕ} → Path links u p → (t : P) → Leads links p q t → Path links u q

-- a value carried by each link of a path in turn
abbrev pub along : {V P : Type 0} (k : Kind V P) {links : List (Link P)} {u p : ℕ} → Path links u p → V → V
along k at x = x
along k (over π t h) x = k.carry t (along k π x)

-- what a path contributes: the first place's own label, carried by each link in turn
abbrev pub contribution : {V P : Type 0} (k : Kind V P) (g : Ledger V P) {u p : ℕ} → Path g.links u p → V
contribution k g {u} π = along k π (g.own u)

-- m takes in the contribution of every path into p
abbrev pub Covers : {V P : Type 0} → Kind V P → Ledger V P → ℕ → V → Type 0
Covers k g p m = (u : ℕ) (π : Path g.links u p) → Within k (contribution k g π) m

-- l is the join over all paths into p: the least that takes in every contribution
pub record IsJoin {V P : Type 0} (k : Kind V P) (g : Ledger V P) (p : ℕ) (l : V) : Type 0 where
  pub covers : Covers k g p l
  pub least : (m : V) → Covers k g p m → Within k l m

-- each label is the join over all paths into its place
abbrev pub AreJoins : {V P : Type 0} → Kind V P → Ledger V P → (ℕ → V) → Type 0
AreJoins k g label = (p : ℕ) → IsJoin k g p (label p)
