-- The law over every run of calls. Assumes nothing.
use Rattle.std.specs.Prelude.{◌≡◌, ℕ, Bool, true, false, List, [], ◌∷◌, ◌++◌, length}
use Rattle.paths.specs.Kind.{Kind}
use Rattle.paths.specs.Ledger.{Ledger, Leads, Path, contribution, IsJoin, AreJoins}
use Rattle.paths.specs.Reports.{Changed, IsReport, Number}
use Rattle.paths.specs.Order.{rank_in}
use Rattle.law.specs.Calls.{Call, bring, own, link, unlink, label, explain, list, grant, renew, give_back, discard, Answer, refused, done, edited, labelled, listed, granted, Event, ledger_after, permit_after, out}
use Rattle.law.specs.Ranks.{OrderAfter}
use Rattle.law.specs.State.{State, Leaves, checks, Decided}
use Rattle.paths.specs.Explain.{Explains}
use Rattle.paths.specs.Explain as path
use Rattle.law.specs.Steps.{New, IsList, Trace}

-- p has an empty own label and no link
pub record Bare {V P : Type 0} (k : Kind V P) (g : Ledger V P) (p : ℕ) : Type 0 where
  pub own : g.own p ≡ k.empty
  pub into : (u : ℕ) (t : P) → Leads g.links u p t → ⊥
  pub from : (v : ℕ) (t : P) → Leads g.links p v t → ⊥

-- p is present, no path into it keeps it on the day d, and no link leaves it
pub record Releasable {V P : Type 0} (k : Kind V P) (free : ℕ → V → Bool) (g : Ledger V P) (p d : ℕ) : Type 0 where
  pub present : g.present p ≡ true
  pub unkept : (u : ℕ) (π : Path g.links u p) → free d (contribution k g π) ≡ true
  pub leaves : Leaves g.links p → ⊥

module _ {V P : Type 0} (k : Kind V P) (free : ℕ → V → Bool) (n m : ℕ) where
  -- s says what the history says: the ledger fed by it, the joins over all paths in that ledger, the ranks by the rule, and the permit that is out
  pub record Seen (es : List (Event V P)) (s : State V P) : Type 0 where
    pub places : s.places ≡ n
    pub limit : s.limit ≡ m
    pub ledger : s.ledger ≡ ledger_after k es
    pub label : AreJoins k s.ledger s.label
    pub order : OrderAfter k n es s.order
    pub permit : s.permit ≡ permit_after es

  -- an edit at e, between the histories before and after it, reported exactly e and every place that a link then leads to from a changed one,
  -- each once, in rising new rank by the rule, and counted those reported and those changed
  pub record Told (before after : List (Event V P)) (e : ℕ) (ps : List ℕ) (reported changed : ℕ) : Type 0 where
    pub old : ℕ → V
    pub new : ℕ → V
    pub order : List ℕ
    pub was : AreJoins k (ledger_after k before) old
    pub is : AreJoins k (ledger_after k after) new
    pub rule : OrderAfter k n after order
    pub report : IsReport (ledger_after k after) e old new (rank_in order) ps
    pub first : reported ≡ length ps
    pub second : Number (Changed old new) changed

  -- the answer of a call after the history before it, which says what is found: a refusal says no more than its check, and an answer of another form is wrong
  module _ (before : List (Event V P)) (found : State V P) where
    -- bring and give back
    abbrev pub DoneRight : Answer V → Type 0
    DoneRight (refused r) = Unit {0}
    DoneRight done = Unit {0}
    DoneRight (edited ps i j) = ⊥
    DoneRight (labelled l) = ⊥
    DoneRight (listed ps i) = ⊥
    DoneRight (granted q e) = ⊥

    -- an edit c at e
    abbrev pub EditRight : Call V P → ℕ → Answer V → Type 0
    EditRight c e (refused r) = Unit {0}
    EditRight c e done = ⊥
    EditRight c e (edited ps i j) = Told before (before ++ ((c, edited ps i j) ∷ [])) e ps i j
    EditRight c e (labelled l) = ⊥
    EditRight c e (listed ps i) = ⊥
    EditRight c e (granted p d) = ⊥

    abbrev pub LabelRight : ℕ → Answer V → Type 0
    LabelRight p (refused r) = Unit {0}
    LabelRight p done = ⊥
    LabelRight p (edited ps i j) = ⊥
    LabelRight p (labelled l) = IsJoin k (ledger_after k before) p l
    LabelRight p (listed ps i) = ⊥
    LabelRight p (granted q d) = ⊥

    abbrev pub ExplainRight : ℕ → ℕ → Answer V → Type 0
    ExplainRight p d (refused r) = Unit {0}
    ExplainRight p d done = ⊥
    ExplainRight p d (edited ps i j) = ⊥
    ExplainRight p d (labelled l) = ⊥
    ExplainRight p d (listed ps i) =
        (i ≡ length ps) × ((u : ℕ) × (ρ : Path found.ledger.links u p) × Explains k free found.ledger found.label d p u ρ × (ps ≡ path.places ρ))
    ExplainRight p d (granted q e) = ⊥

    abbrev pub ListRight : ℕ → Answer V → Type 0
    ListRight d (refused r) = Unit {0}
    ListRight d done = ⊥
    ListRight d (edited ps i j) = ⊥
    ListRight d (labelled l) = ⊥
    ListRight d (listed ps i) = (i ≡ length ps) × IsList free found d ps
    ListRight d (granted q e) = ⊥

    -- a permit for p and d
    abbrev pub PermitRight : ℕ → ℕ → Answer V → Type 0
    PermitRight p d (refused r) = Unit {0}
    PermitRight p d done = ⊥
    PermitRight p d (edited ps i j) = ⊥
    PermitRight p d (labelled l) = ⊥
    PermitRight p d (listed ps i) = ⊥
    PermitRight p d (granted q e) = (q ≡ p) × (e ≡ d)

    -- no path into p keeps it on the day d
    abbrev pub DiscardRight : ℕ → ℕ → Answer V → Type 0
    DiscardRight p d (refused r) = Unit {0}
    DiscardRight p d done = (u : ℕ) (π : Path (ledger_after k before).links u p) → free d (contribution k (ledger_after k before) π) ≡ true
    DiscardRight p d (edited ps i j) = ⊥
    DiscardRight p d (labelled l) = ⊥
    DiscardRight p d (listed ps i) = ⊥
    DiscardRight p d (granted q e) = ⊥

    abbrev pub Right : Call V P → Answer V → Type 0
    Right (bring p) a = DoneRight a
    Right (own p x room) a = EditRight (own p x room) p a
    Right (link u v t room) a = EditRight (link u v t room) v a
    Right (unlink u v room) a = EditRight (unlink u v room) v a
    Right (label p) a = LabelRight p a
    Right (explain p d room) a = ExplainRight p d a
    Right (list d room) a = ListRight d a
    Right (grant p d) a = PermitRight p d a
    Right (renew p d new) a = PermitRight p new a
    Right (give_back p d) a = DoneRight a
    Right (discard p d) a = DiscardRight p d a

  -- the checks alone, on what the history says, decided the answer, and it is right
  pub record Answered (before : List (Event V P)) (c : Call V P) (a : Answer V) : Type 0 where
    pub found : State V P
    pub seen : Seen before found
    pub decided : Decided (checks free found c) a
    pub right : Right before found c a

  pub record Law (es : List (Event V P)) (t : State V P) : Type 0 where
    -- the label of each place is the join over all paths into it in the ledger
    pub labels : AreJoins k (ledger_after k es) t.label
    -- an absent place has an empty own label and no link
    pub absent : (p : ℕ) → (ledger_after k es).present p ≡ false → Bare k (ledger_after k es) p
    -- as long as a permit is out, its place is present, no path keeps it on the permit's day, and no link leaves it
    pub permit : (p d : ℕ) → permit_after es ≡ out p d → Releasable k free (ledger_after k es) p d
    -- each answer is right, after what came before it
    pub answers : (before after : List (Event V P)) (c : Call V P) (a : Answer V) → es ≡ before ++ ((c, a) ∷ after) → Answered before c a

-- every run from a new store keeps the law, whatever the calls
abbrev pub EveryRunKeepsTheLaw : {V P : Type 0} → Kind V P → (ℕ → V → Bool) → Type 0
EveryRunKeepsTheLaw {V} {P} k free =
    (n m : ℕ) (s t : State V P) (es : List (Event V P)) → New k n m s → Trace k free s es t → Law k free n m es t

-- the rule gives one order after a history, whatever the history
abbrev pub OrderIsOne : {V P : Type 0} → Kind V P → Type 0
OrderIsOne {V} {P} k = (n : ℕ) (es : List (Event V P)) (o o' : List ℕ) → OrderAfter k n es o → OrderAfter k n es o' → o ≡ o'

-- the law leaves an edit one report and one pair of counts
abbrev pub EditHasOneAnswer : {V P : Type 0} → Kind V P → (ℕ → V → Bool) → Type 0
EditHasOneAnswer {V} {P} k free =
    (n m : ℕ) (es : List (Event V P)) (c : Call V P) (e : ℕ) (ps qs : List ℕ) (i i' j j' : ℕ) →
    Told k free n m es (es ++ ((c, edited ps i j) ∷ [])) e ps i j → Told k free n m es (es ++ ((c, edited qs i' j') ∷ [])) e qs i' j' → (ps ≡ qs) × (i ≡ i') × (j ≡ j')
