-- The equation that ties each place's label to the labels one link before it. Assumes nothing.
use Rattle.std.specs.Prelude.{◌≡◌, ℕ, ◌<◌, cond, List, [], ◌∷◌, ◌==◌}
use Rattle.paths.specs.Kind.{Kind}
use Rattle.paths.specs.Ledger.{Link, Ledger, Leads}

-- the join of the labels that the links into p carry
abbrev pub inflow : {V P : Type 0} → Kind V P → (ℕ → V) → ℕ → List (Link P) → V
inflow k label p [] = k.empty
inflow k label p (l ∷ ls) = cond (l.target == p) (k.join (k.carry l.passage (label l.source)) (inflow k label p ls)) (inflow k label p ls)

-- the label of p is its own one joined with what the links into p carry
abbrev pub BalancedAt : {V P : Type 0} → Kind V P → Ledger V P → (ℕ → V) → ℕ → Type 0
BalancedAt k g label p = label p ≡ k.join (g.own p) (inflow k label p g.links)

-- and so of every place
abbrev pub Balanced : {V P : Type 0} → Kind V P → Ledger V P → (ℕ → V) → Type 0
Balanced k g label = (p : ℕ) → BalancedAt k g label p

-- every link leads from a lower rank to a higher
abbrev pub Topological : {P : Type 0} → (ℕ → ℕ) → List (Link P) → Type 0
Topological {P} rank links = (u v : ℕ) (t : P) → Leads links u v t → rank u < rank v
