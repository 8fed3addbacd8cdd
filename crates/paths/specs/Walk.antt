-- One walk up the ranks that recomputes labels: what it does at a place, and how far it has come. Assumes nothing.
use Rattle.std.specs.Prelude.{◌≡◌, ℕ, ◌+◌, ◌<◌, ◌≤◌, Bool, true, false, ◌⊎◌, ◌↔◌, List, [], ◌∷◌, ◌++◌, length, ◌==◌, ◌≢◌, slice_index}
use Rattle.std.specs.List.{ContainsAt as Has}
use Rattle.paths.specs.Kind.{Kind}
use Rattle.paths.specs.Ledger.{Ledger, Leads, Inside, IsJoin}
use Rattle.paths.specs.Equations.{inflow, Balanced, BalancedAt, Topological}
use Rattle.paths.specs.Edits.{Stands}
use Rattle.paths.specs.Reports.{Changed, Reported, IsReport, Rising, Number}
use Rattle.paths.specs.Order.{Ranked}

-- the labels and the marks of the places, the places reported so far and the number of those changed so far
pub record State (V : Type 0) : Type 0 where
  pub labels : ℕ → V
  pub marks : ℕ → ℕ
  pub told : List ℕ
  pub changed : ℕ

-- new is old with x at p
pub record Put {X : Type 0} (old new : ℕ → X) (p : ℕ) (x : X) : Type 0 where
  pub here : new p ≡ x
  pub other : (q : ℕ) → ¬ (q ≡ p) → new q ≡ old q

-- labels, marks and the count are as before
pub record Same {V : Type 0} (s t : State V) : Type 0 where
  pub labels : (q : ℕ) → t.labels q ≡ s.labels q
  pub marks : (q : ℕ) → t.marks q ≡ s.marks q
  pub count : t.changed ≡ s.changed

-- the label of p is another one, and p is marked and counted
pub record Turned {V : Type 0} (p : ℕ) (s t : State V) : Type 0 where
  pub label : ¬ (t.labels p ≡ s.labels p)
  pub marks : Put s.marks t.marks p 1
  pub count : t.changed ≡ s.changed + 1

-- p is not the edited place, no link into p comes from a marked one, and all stays
pub record Passed {V P : Type 0} (h : Ledger V P) (edited : Bool) (p : ℕ) (s t : State V) : Type 0 where
  pub other : edited ≡ false
  pub unfed : (q : ℕ) (x : P) → Leads h.links q p x → s.marks q ≢ 1
  pub same : Same s t
  pub told : t.told ≡ s.told

-- p is the edited place, or a link into p comes from a marked one; it is told, and its label recomputed
pub record Redone {V P : Type 0} (k : Kind V P) (h : Ledger V P) (edited : Bool) (p : ℕ) (s t : State V) : Type 0 where
  pub cause : (edited ≡ true) ⊎ ((q : ℕ) × (x : P) × Leads h.links q p x × (s.marks q ≡ 1))
  pub label : Put s.labels t.labels p (k.join (h.own p) (inflow k s.labels p h.links))
  pub told : t.told ≡ s.told ++ (p ∷ [])
  pub marks : Same s t ⊎ Turned p s t

-- one step of the walk, at the place p; edited says whether p is the edited place
abbrev pub Stepped : {V P : Type 0} → Kind V P → Ledger V P → Bool → ℕ → State V → State V → Type 0
Stepped k h edited p s t = Passed h edited p s t ⊎ Redone k h edited p s t

-- before the walk the labels are the old ones, and no place below n is marked, and none reported or counted
pub record Started {V : Type 0} (n : ℕ) (old : ℕ → V) (s : State V) : Type 0 where
  pub labels : (p : ℕ) → s.labels p ≡ old p
  pub marks : (p : ℕ) → p < n → s.marks p ≡ 0
  pub told : s.told ≡ []
  pub count : s.changed ≡ 0

-- a walk up the ranks from the edited place's to the last: state has where it stands before each rank, and each step is at the place of that rank
pub record Walk {V P : Type 0} (k : Kind V P) (h : Ledger V P) (rank : ℕ → ℕ) (order : List ℕ) (e : ℕ) (old : ℕ → V) (state : ℕ → State V) : Type 0 where
  pub ranked : Ranked rank order
  pub rises : Topological rank h.links
  pub inside : Inside (length order) h.links
  pub place : e < length order
  pub starts : Started (length order) old (state (rank e))
  pub steps : (r : ℕ) → rank e ≤ r → r < length order → Stepped k h (slice_index order r == e) (slice_index order r) (state r) (state (r + 1))

-- p is reported and recomputed, or stands
abbrev pub Done : {V P : Type 0} → Kind V P → Ledger V P → ℕ → (ℕ → V) → (ℕ → V) → ℕ → Type 0
Done k h e old new p = (Reported h e old new p × BalancedAt k h new p) ⊎ Stands h e old new p

-- the places below n of the ranks below r are done, and the others as they were
pub record Progress {V P : Type 0} (k : Kind V P) (h : Ledger V P) (rank : ℕ → ℕ) (n e : ℕ) (old : ℕ → V) (r : ℕ) (s : State V) : Type 0 where
  pub kept : (p : ℕ) → (p < n → r ≤ rank p) → s.labels p ≡ old p
  pub marked : (p : ℕ) → p < n → s.marks p ≡ 1 → Changed old s.labels p
  pub unmarked : (p : ℕ) → p < n → ¬ (s.marks p ≡ 1) → s.labels p ≡ old p
  pub done : (p : ℕ) → p < n → rank p < r → Done k h e old s.labels p
  pub listed : (p : ℕ) → Has s.told p → (p < n) × (rank p < r) × Reported h e old s.labels p
  pub lists : (p : ℕ) → p < n → rank p < r → Reported h e old s.labels p → Has s.told p
  pub rising : Rising rank s.told
  pub turned : List ℕ
  pub turned_those : (p : ℕ) → Has turned p ↔ Changed old s.labels p
  pub turned_rising : Rising rank turned
  pub turned_size : length turned ≡ s.changed

-- after an edit at e the new labels are the joins over all paths, the places told are the reported ones, and the two counts are of those reported and of those changed
pub record Recomputed {V P : Type 0} (k : Kind V P) (h : Ledger V P) (rank : ℕ → ℕ) (e : ℕ) (old new : ℕ → V) (told : List ℕ) (counts : ℕ × ℕ) : Type 0 where
  pub balanced : Balanced k h new
  pub joins : (p : ℕ) → IsJoin k h p (new p)
  pub report : IsReport h e old new rank told
  pub first : counts.0 ≡ length told
  pub second : Number (Changed old new) counts.1
