-- Two ledgers that differ by an edit at one place, and a relabelling that leaves places standing. Assumes nothing.
use Rattle.std.specs.Prelude.{◌≡◌, ℕ, ◌⊎◌, ◌↔◌}
use Rattle.paths.specs.Kind.{Kind}
use Rattle.paths.specs.Ledger.{Ledger, Leads, AreJoins}
use Rattle.paths.specs.Equations.{BalancedAt, Topological}

-- the two ledgers agree on the own label of p and on the links into p
pub record AgreeAt {V P : Type 0} (g h : Ledger V P) (p : ℕ) : Type 0 where
  pub own : g.own p ≡ h.own p
  pub links : (u : ℕ) (t : P) → Leads g.links u p t ↔ Leads h.links u p t

-- only the place e was edited
abbrev pub Edited : {V P : Type 0} → Ledger V P → Ledger V P → ℕ → Type 0
Edited g h e = (p : ℕ) → ¬ (p ≡ e) → AgreeAt g h p

-- h comes from g by an edit at the place e, links rise before and after, and the labels before are the joins
pub record Edit {V P : Type 0} (k : Kind V P) (g h : Ledger V P) (e : ℕ) (old : ℕ → V) : Type 0 where
  pub edited : Edited g h e
  pub before : ℕ → ℕ
  pub rose : Topological before g.links
  pub rank : ℕ → ℕ
  pub rises : Topological rank h.links
  pub was : AreJoins k g old

-- p keeps its label, was not edited, and each link into p comes from a place that keeps its label
pub record Stands {V P : Type 0} (h : Ledger V P) (e : ℕ) (old new : ℕ → V) (p : ℕ) : Type 0 where
  pub kept : new p ≡ old p
  pub other : ¬ (p ≡ e)
  pub sources : (u : ℕ) (t : P) → Leads h.links u p t → new u ≡ old u

-- each place is recomputed from the new labels or stands
abbrev pub Relabelled : {V P : Type 0} → Kind V P → Ledger V P → ℕ → (ℕ → V) → (ℕ → V) → Type 0
Relabelled k h e old new = (p : ℕ) → BalancedAt k h new p ⊎ Stands h e old new p
