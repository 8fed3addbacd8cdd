-- The theorems, as statements that contracts name. Assumes nothing.
use Rattle.std.specs.Prelude.{◌≡◌, ℕ, ◌+◌, ◌<◌, ◌≤◌, Bool, true, false, cond, not, ◌⊎◌, ◌↔◌, List, [], ◌∷◌, ◌++◌, length, take, filter, ◌≢◌, slice_index, slice_index_or}
use Rattle.paths.specs.Kind.{Kind}
use Rattle.paths.specs.Ledger.{Link, Ledger, Leads, OneEach, Inside, Path, IsJoin, AreJoins}
use Rattle.paths.specs.Equations.{inflow, Balanced, Topological}
use Rattle.paths.specs.Calls.{Call, bring, own, link, unlink, discard, put, next, at_first, after}
use Rattle.paths.specs.Edits.{AgreeAt, Edited, Edit, Relabelled}
use Rattle.paths.specs.Reports.{Changed, Reported, IsReport, Number}
use Rattle.paths.specs.Walk.{State, Progress, Recomputed, Walk}
use Rattle.paths.specs.Search.{Forward, Marks}
use Rattle.paths.specs.Order.{Ranked, upto, moved}
use Rattle.paths.specs.Ranks.{Moved}
use Rattle.paths.specs.Explain.{Kept, KeepsEnd, Explains, places}

-- ==== the join over all paths

-- over rising links, balanced labels are the joins over all paths
abbrev pub BalancedIsJoin : {V P : Type 0} → Kind V P → Type 0
BalancedIsJoin {V} {P} k = (g : Ledger V P) (rank : ℕ → ℕ) (label : ℕ → V) → Topological rank g.links → Balanced k g label → AreJoins k g label

-- and the joins over all paths are balanced
abbrev pub JoinIsBalanced : {V P : Type 0} → Kind V P → Type 0
JoinIsBalanced {V} {P} k = (g : Ledger V P) (rank : ℕ → ℕ) (label : ℕ → V) → Topological rank g.links → AreJoins k g label → Balanced k g label

-- a place has no two joins
abbrev pub JoinIsUnique : {V P : Type 0} → Kind V P → Type 0
JoinIsUnique {V} {P} k = (g : Ledger V P) (p : ℕ) (l m : V) → IsJoin k g p l → IsJoin k g p m → l ≡ m

-- over rising links each place has one
abbrev pub JoinExists : {V P : Type 0} → Kind V P → Type 0
JoinExists {V} {P} k = (g : Ledger V P) (rank : ℕ → ℕ) → Topological rank g.links → (p : ℕ) → (l : V) × IsJoin k g p l

-- the joins depend on the own labels and on which links there are, and on nothing else
abbrev pub JoinDepends : {V P : Type 0} → Kind V P → Type 0
JoinDepends {V} {P} k = (g h : Ledger V P) → ((p : ℕ) → AgreeAt g h p) → (p : ℕ) (l : V) → IsJoin k g p l → IsJoin k h p l

-- a label is free on a day exactly when no path into its place keeps it then
abbrev pub FreeByPaths : {V P : Type 0} → Kind V P → (ℕ → V → Bool) → Type 0
FreeByPaths {V} {P} k free =
    (g : Ledger V P) (rank : ℕ → ℕ) → Topological rank g.links → (p d : ℕ) (l : V) → IsJoin k g p l → 0 < d →
    (free d l ≡ true) ↔ ((u : ℕ) (π : Path g.links u p) → KeepsEnd k free g d π → ⊥)

-- ==== calls and the ledger

-- at first the empty label is the join everywhere, and what is asked of links holds, for there is none
pub record FirstLedger {V P : Type 0} (k : Kind V P) : Type 0 where
  pub joins : AreJoins k (at_first k) (λ p. k.empty)
  pub rises : (rank : ℕ → ℕ) → Topological rank (at_first k).links
  pub inside : (n : ℕ) → Inside n (at_first k).links
  pub one : OneEach (at_first k).links

-- what each accepted call does to the presence of places, to own labels and to links, and what it leaves
pub record CallsChange {V P : Type 0} (k : Kind V P) : Type 0 where
  pub bring_present : (g : Ledger V P) (p : ℕ) → ((next k g (bring p)).present p ≡ true) × ((q : ℕ) → ¬ (q ≡ p) → (next k g (bring p)).present q ≡ g.present q)
  pub bring_leaves : (g : Ledger V P) (p : ℕ) → ((next k g (bring p)).own ≡ g.own) × ((next k g (bring p)).links ≡ g.links)
  pub own_own : (g : Ledger V P) (p : ℕ) (x : V) → ((next k g (own p x)).own p ≡ x) × ((q : ℕ) → ¬ (q ≡ p) → (next k g (own p x)).own q ≡ g.own q)
  pub own_leaves : (g : Ledger V P) (p : ℕ) (x : V) → ((next k g (own p x)).present ≡ g.present) × ((next k g (own p x)).links ≡ g.links)
  pub link_links : (g : Ledger V P) (u v : ℕ) (t : P) (a b : ℕ) (s : P) →
      Leads (next k g (link u v t)).links a b s ↔ (((a ≡ u) × (b ≡ v) × (s ≡ t)) ⊎ Leads g.links a b s)
  pub link_leaves : (g : Ledger V P) (u v : ℕ) (t : P) → ((next k g (link u v t)).present ≡ g.present) × ((next k g (link u v t)).own ≡ g.own)
  pub unlink_links : (g : Ledger V P) (u v a b : ℕ) (s : P) → Leads (next k g (unlink u v)).links a b s ↔ (Leads g.links a b s × ¬ ((a ≡ u) × (b ≡ v)))
  pub unlink_leaves : (g : Ledger V P) (u v : ℕ) → ((next k g (unlink u v)).present ≡ g.present) × ((next k g (unlink u v)).own ≡ g.own)
  pub discard_present : (g : Ledger V P) (p : ℕ) → ((next k g (discard p)).present p ≡ false) × ((q : ℕ) → ¬ (q ≡ p) → (next k g (discard p)).present q ≡ g.present q)
  pub discard_own : (g : Ledger V P) (p : ℕ) → ((next k g (discard p)).own p ≡ k.empty) × ((q : ℕ) → ¬ (q ≡ p) → (next k g (discard p)).own q ≡ g.own q)
  pub discard_links : (g : Ledger V P) (p a b : ℕ) (s : P) → Leads (next k g (discard p)).links a b s ↔ (Leads g.links a b s × ¬ (b ≡ p))
  -- a call that is fed last acts on the ledger after the others, if it was accepted
  pub fed : (g : Ledger V P) (cs : List (Call V P × Bool)) (c : Call V P) (accepted : Bool) →
      after k g (cs ++ ((c, accepted) ∷ [])) ≡ cond accepted (next k (after k g cs) c) (after k g cs)

-- own edits its place, and link and unlink edit their target: nothing else that labels depend on differs
pub record CallsEdit {V P : Type 0} (k : Kind V P) : Type 0 where
  pub of_own : (g : Ledger V P) (p : ℕ) (x : V) → Edited g (next k g (own p x)) p
  pub of_link : (g : Ledger V P) (u v : ℕ) (t : P) → Edited g (next k g (link u v t)) v
  pub of_unlink : (g : Ledger V P) (u v : ℕ) → Edited g (next k g (unlink u v)) v

-- bring leaves every join as it was; discard of a place that no link leaves empties the join there and leaves the others as they were
pub record CallsKeepJoins {V P : Type 0} (k : Kind V P) : Type 0 where
  pub of_bring : (g : Ledger V P) (p : ℕ) (label : ℕ → V) → AreJoins k g label → AreJoins k (next k g (bring p)) label
  pub of_discard : (g : Ledger V P) (rank : ℕ → ℕ) → Topological rank g.links → (p : ℕ) → ((v : ℕ) (t : P) → Leads g.links p v t → ⊥) →
      (label : ℕ → V) → AreJoins k g label → AreJoins k (next k g (discard p)) (put label p k.empty)

-- taking links away leaves the links rising, among the first n places, and one at most from a place to another; a link of two of the n places, not linked yet, keeps the last two
pub record CallsKeepLinks {V P : Type 0} (k : Kind V P) : Type 0 where
  pub unlink_rises : (g : Ledger V P) (rank : ℕ → ℕ) (u v : ℕ) → Topological rank g.links → Topological rank (next k g (unlink u v)).links
  pub discard_rises : (g : Ledger V P) (rank : ℕ → ℕ) (p : ℕ) → Topological rank g.links → Topological rank (next k g (discard p)).links
  pub unlink_inside : (g : Ledger V P) (n u v : ℕ) → Inside n g.links → Inside n (next k g (unlink u v)).links
  pub discard_inside : (g : Ledger V P) (n p : ℕ) → Inside n g.links → Inside n (next k g (discard p)).links
  pub link_inside : (g : Ledger V P) (n u v : ℕ) (t : P) → u < n → v < n → Inside n g.links → Inside n (next k g (link u v t)).links
  pub unlink_one : (g : Ledger V P) (u v : ℕ) → OneEach g.links → OneEach (next k g (unlink u v)).links
  pub discard_one : (g : Ledger V P) (p : ℕ) → OneEach g.links → OneEach (next k g (discard p)).links
  pub link_one : (g : Ledger V P) (u v : ℕ) (t : P) → ((s : P) → Leads g.links u v s → ⊥) → OneEach g.links → OneEach (next k g (link u v t)).links

-- ==== edits, reports and counts

-- where the edited place and each place linked from a changed one is recomputed, and the others stand, each label is the join again
abbrev pub RecomputingSuffices : {V P : Type 0} → Kind V P → Type 0
RecomputingSuffices {V} {P} k = (g h : Ledger V P) (e : ℕ) (old new : ℕ → V) → Edit k g h e old → Relabelled k h e old new → AreJoins k h new

-- every changed place is reported
abbrev pub ChangedIsReported : {V P : Type 0} → Kind V P → Type 0
ChangedIsReported {V} {P} k = (g h : Ledger V P) (e : ℕ) (old new : ℕ → V) → Edit k g h e old → AreJoins k h new → (p : ℕ) → Changed old new p → Reported h e old new p

-- so the number of changed places is that of the changed ones among the reported
abbrev pub ChangedAreCounted : {V P : Type 0} → Kind V P → (V → V → Bool) → Type 0
ChangedAreCounted {V} {P} k same =
    (g h : Ledger V P) (e : ℕ) (old new : ℕ → V) → Edit k g h e old → AreJoins k h new → (rank : ℕ → ℕ) (told : List ℕ) → IsReport h e old new rank told →
    Number (Changed old new) (length (filter (λ p. not (same (new p) (old p))) told))

-- an edit among the places of an order has an answer
abbrev pub AnswerExists : {V P : Type 0} → Kind V P → Type 0
AnswerExists {V} {P} k =
    (g h : Ledger V P) (e : ℕ) (old : ℕ → V) → Edit k g h e old →
    (rank : ℕ → ℕ) (order : List ℕ) → Ranked rank order → Topological rank h.links → Inside (length order) h.links → e < length order →
    (new : ℕ → V) × (told : List ℕ) × (counts : ℕ × ℕ) × Recomputed k h rank e old new told counts

-- and just one: one label for each place, one report and one pair of counts
abbrev pub AnswerIsOne : {V P : Type 0} → Kind V P → Type 0
AnswerIsOne {V} {P} k =
    (h : Ledger V P) (rank : ℕ → ℕ) (e : ℕ) (old new new' : ℕ → V) (told told' : List ℕ) (counts counts' : ℕ × ℕ) →
    Recomputed k h rank e old new told counts → Recomputed k h rank e old new' told' counts' → ((p : ℕ) → new p ≡ new' p) × (told ≡ told') × (counts ≡ counts')

-- ledgers that agree at every place, as when one has its links in another order, rise in the same ranks, come from the same edits and have the same answer
pub record AgreementSuffices {V P : Type 0} (k : Kind V P) : Type 0 where
  pub rises : (g h : Ledger V P) → ((p : ℕ) → AgreeAt g h p) → (rank : ℕ → ℕ) → Topological rank h.links → Topological rank g.links
  pub edited : (g h : Ledger V P) → ((p : ℕ) → AgreeAt g h p) → (f : Ledger V P) (e : ℕ) → Edited f h e → Edited f g e
  pub answer : (g h : Ledger V P) → ((p : ℕ) → AgreeAt g h p) → (rank : ℕ → ℕ) (e : ℕ) (old new : ℕ → V) (told : List ℕ) (counts : ℕ × ℕ) →
      Recomputed k g rank e old new told counts → Recomputed k h rank e old new told counts

-- a walk has done all places below the rank that it has come to, and at its end labels, report and counts are the edit's
pub record WalkRecomputes {V P : Type 0} (k : Kind V P) : Type 0 where
  pub on_the_way : (h : Ledger V P) (rank : ℕ → ℕ) (order : List ℕ) (e : ℕ) (old : ℕ → V) (state : ℕ → State V) → Walk k h rank order e old state →
      (r : ℕ) → rank e ≤ r → r ≤ length order → Progress k h rank (length order) e old r (state r)
  pub at_the_end : (g h : Ledger V P) (rank : ℕ → ℕ) (order : List ℕ) (e : ℕ) (old : ℕ → V) (state : ℕ → State V) → Edit k g h e old → Walk k h rank order e old state →
      Recomputed k h rank e old (state (length order)).labels (state (length order)).told (length (state (length order)).told, (state (length order)).changed)

-- a place's label can be gathered by going over the links once, from its own one: what a link into the place carries is joined, and another link is passed by
pub record GatheredByLink {V P : Type 0} (k : Kind V P) : Type 0 where
  pub begun : (label : ℕ → V) (p : ℕ) (own : V) (links : List (Link P)) → own ≡ k.join own (inflow k label p (take 0 links))
  pub joined : (label : ℕ → V) (p : ℕ) (own gathered : V) (links : List (Link P)) (i : ℕ) (d : Link P) → i < length links → gathered ≡ k.join own (inflow k label p (take i links)) →
      (slice_index_or links i d).target ≡ p → k.join gathered (k.carry (slice_index_or links i d).passage (label (slice_index_or links i d).source)) ≡ k.join own (inflow k label p (take (i + 1) links))
  pub passed : (label : ℕ → V) (p : ℕ) (own gathered : V) (links : List (Link P)) (i : ℕ) (d : Link P) → i < length links → gathered ≡ k.join own (inflow k label p (take i links)) →
      ((slice_index_or links i d).target ≢ p) → gathered ≡ k.join own (inflow k label p (take (i + 1) links))

-- ==== circles and ranks

-- a walk up the ranks from v's to u's marks just the forward set, so it marks u exactly when a path leads from v to u; and such marks there are
pub record WalkFindsPaths (P : Type 0) : Type 0 where
  pub marks_forward : (links : List (Link P)) (rank : ℕ → ℕ) → Topological rank links → (v u : ℕ) → rank v ≤ rank u → (marked : ℕ → Bool) → Marks links rank v u marked ↔ Forward links rank v u marked
  pub finds : (links : List (Link P)) (rank : ℕ → ℕ) → Topological rank links → (v u : ℕ) (marked : ℕ → Bool) → Marks links rank v u marked → (marked u ≡ true) ↔ Path links v u
  pub exists : (links : List (Link P)) (rank : ℕ → ℕ) → Topological rank links → (v u : ℕ) → rank v ≤ rank u → (marked : ℕ → Bool) × Marks links rank v u marked

-- place p starts with rank p
abbrev pub FirstRanks : Type 0
FirstRanks = (n : ℕ) → (length (upto n) ≡ n) × Ranked (λ p. p) (upto n)

-- ranks are a permutation: an order of n places has just the first n, and two rank functions of one order agree on them
pub record RanksPermute : Type 0 where
  pub places : (rank : ℕ → ℕ) (order : List ℕ) → Ranked rank order → (i : ℕ) → i < length order → slice_index order i < length order
  pub one : (order : List ℕ) (a b : ℕ → ℕ) → Ranked a order → Ranked b order → (p : ℕ) → p < length order → a p ≡ b p

-- moving ranks leaves each rank held by one place
abbrev pub MovedIsRanked : Type 0
MovedIsRanked =
    (rank : ℕ → ℕ) (order : List ℕ) → Ranked rank order → (marked : ℕ → Bool) (low high : ℕ) → low ≤ high →
    (length (moved marked low high order) ≡ length order) × ((new : ℕ → ℕ) × Ranked new (moved marked low high order))

-- what moving ranks does to each place: outside the window ranks stay, within it the places outside the marked set come first, each of the two in the order that it had
-- (a number past the places has a rank past theirs, which stays)
abbrev pub MovedByTheRule : Type 0
MovedByTheRule =
    (rank new : ℕ → ℕ) (order : List ℕ) → Ranked rank order → (marked : ℕ → Bool) (v u : ℕ) → v < length order → u < length order → rank v ≤ rank u →
    Ranked new (moved marked (rank v) (rank u) order) → ((p : ℕ) → length order ≤ p → (length order ≤ rank p) × (new p ≡ rank p)) → Moved rank new v u marked

-- after a link from u to v the links rise: in the ranks as they are where u has the lower one, and else, where no path leads back, in the moved ones
pub record LinkKeepsRising {V P : Type 0} (k : Kind V P) : Type 0 where
  pub still : (g : Ledger V P) (rank : ℕ → ℕ) → Topological rank g.links → (u v : ℕ) (t : P) → rank u < rank v → Topological rank (next k g (link u v t)).links
  pub turned : (g : Ledger V P) (rank : ℕ → ℕ) (order : List ℕ) → Ranked rank order → Topological rank g.links → Inside (length order) g.links →
      (u v : ℕ) (t : P) → u < length order → v < length order → rank v ≤ rank u → (Path g.links v u → ⊥) →
      (marked : ℕ → Bool) → Marks g.links rank v u marked → (new : ℕ → ℕ) → Ranked new (moved marked (rank v) (rank u) order) →
      Topological new (next k g (link u v t)).links

-- a path leads from v to u exactly when no ranks at all rise along the old links and a new one from u to v: the link closes a circle
abbrev pub CircleIsPathBack : {V P : Type 0} → Kind V P → Type 0
CircleIsPathBack {V} {P} k =
    (g : Ledger V P) (rank : ℕ → ℕ) (order : List ℕ) → Ranked rank order → Topological rank g.links → Inside (length order) g.links →
    (u v : ℕ) (t : P) → u < length order → v < length order →
    Path g.links v u ↔ ((new : ℕ → ℕ) → Topological new (next k g (link u v t)).links → ⊥)

-- ==== explanations

-- a label that is not free along a path is so by its place's own label, or by the label of a source one link before
abbrev pub KeptHasACause : {V P : Type 0} → Kind V P → (ℕ → V → Bool) → Type 0
KeptHasACause {V} {P} k free =
    (g : Ledger V P) (label : ℕ → V) → Balanced k g label → (d : ℕ) → 0 < d → (v p : ℕ) (π : Path g.links v p) → Kept k free d π (label v) →
    Kept k free d π (g.own v) ⊎ ((u : ℕ) × (t : P) × Leads g.links u v t × Kept k free d π (k.carry t (label u)))

-- a place that is kept on a day has a path that explains it, by the rule; that path keeps it; and its places are the one answer
pub record Explained {V P : Type 0} (k : Kind V P) (free : ℕ → V → Bool) : Type 0 where
  pub some : (g : Ledger V P) (rank : ℕ → ℕ) (label : ℕ → V) → Topological rank g.links → AreJoins k g label → (d p : ℕ) → 0 < d → free d (label p) ≡ false →
      (u : ℕ) × (ρ : Path g.links u p) × Explains k free g label d p u ρ
  pub keeps : (g : Ledger V P) (label : ℕ → V) (d p u : ℕ) (ρ : Path g.links u p) → Explains k free g label d p u ρ → KeepsEnd k free g d ρ
  pub one : (g : Ledger V P) (label : ℕ → V) (d p u w : ℕ) (ρ : Path g.links u p) (σ : Path g.links w p) → OneEach g.links →
      Explains k free g label d p u ρ → Explains k free g label d p w σ → places ρ ≡ places σ
