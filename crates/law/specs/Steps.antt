-- What one call does to a store, and runs of calls. Assumes nothing.
use Rattle.std.specs.Prelude.{◌≡◌, ℕ, ◌<◌, Bool, true, ◌↔◌, List, [], ◌∷◌, ◌++◌, length}
use Rattle.std.specs.List.{ContainsAt as Has}
use Rattle.paths.specs.Kind.{Kind}
use Rattle.paths.specs.Ledger.{Path, AreJoins}
use Rattle.paths.specs.Order.{upto, rank_in}
use Rattle.paths.specs.Calls.{at_first, put}
use Rattle.paths.specs.Walk.{Recomputed}
use Rattle.paths.specs.Reports.{Rising}
use Rattle.paths.specs.Explain.{Explains}
use Rattle.paths.specs.Explain as path
use Rattle.common.specs.Checks.{Passed, Refused}
use Rattle.law.specs.Calls.{Call, bring, own, link, unlink, label, explain, list, grant, renew, give_back, discard, Answer, refused, done, edited, labelled, listed, granted, Event, fed, none, hands}
use Rattle.law.specs.Ranks.{Shifts}
use Rattle.law.specs.State.{State, Leaves, checks, Same}
use Rattle.common.specs.declared.refusal.Refusal.{Refusal}

-- a new store of n places for m links
pub record New {V P : Type 0} (k : Kind V P) (n m : ℕ) (s : State V P) : Type 0 where
  pub places : s.places ≡ n
  pub limit : s.limit ≡ m
  pub ledger : Same s.ledger (at_first k)
  pub label : (p : ℕ) → s.label p ≡ k.empty
  pub order : s.order ≡ upto n
  pub permit : s.permit ≡ none

-- the list of a day: the places that are present, free on it and without a leaving link, in ascending number
pub record IsList {V P : Type 0} (free : ℕ → V → Bool) (s : State V P) (d : ℕ) (ps : List ℕ) : Type 0 where
  pub those : (p : ℕ) → Has ps p ↔ ((p < s.places) × (s.ledger.present p ≡ true) × (free d (s.label p) ≡ true) × (Leaves s.ledger.links p → ⊥))
  pub ascending : Rising (λ p. p) ps

module _ {V P : Type 0} (k : Kind V P) where
  -- the labels after an accepted call that is no edit: a discard empties one
  abbrev pub relabels : (ℕ → V) → Call V P → ℕ → V
  relabels f (bring p) = f
  relabels f (own p x room) = f
  relabels f (link u v t room) = f
  relabels f (unlink u v room) = f
  relabels f (label p) = f
  relabels f (explain p d room) = f
  relabels f (list d room) = f
  relabels f (grant p d) = f
  relabels f (renew p d new) = f
  relabels f (give_back p d) = f
  relabels f (discard p d) = put f p k.empty

  -- what every accepted call does to places, ledger, ranks and permit
  pub record Does (s : State V P) (c : Call V P) (t : State V P) : Type 0 where
    pub places : t.places ≡ s.places
    pub limit : t.limit ≡ s.limit
    pub ledger : Same t.ledger (fed k s.ledger c)
    pub order : Shifts s.ledger.links c s.order t.order
    pub permit : t.permit ≡ hands s.permit c

  -- an accepted edit at e: if the labels before it were the joins, those after it are, and the report and the two counts are those of the edit
  pub record Edits (s : State V P) (c : Call V P) (e : ℕ) (ps : List ℕ) (reported changed : ℕ) (t : State V P) : Type 0 where
    pub does : Does s c t
    pub labels : AreJoins k s.ledger s.label → Recomputed k t.ledger (rank_in t.order) e s.label t.label ps (reported, changed)

  -- any other accepted call
  pub record Turns (s : State V P) (c : Call V P) (t : State V P) : Type 0 where
    pub does : Does s c t
    pub labels : (p : ℕ) → t.label p ≡ relabels s.label c p

module _ {V P : Type 0} (k : Kind V P) (free : ℕ → V → Bool) where
  -- a store in the state s, at the call c, answers a and is in the state t
  pub data Step : State V P → Call V P → Answer V → State V P → Type 0 where
    refuses : (s : State V P) (c : Call V P) (r : Refusal) → Refused (checks free s c) r → Step s c (refused r) s
    brings : (s t : State V P) (p : ℕ) → Passed (checks free s (bring p)) → Turns k s (bring p) t → Step s (bring p) done t
    owns : (s t : State V P) (p : ℕ) (x : V) (room : ℕ) (ps : List ℕ) (m n : ℕ) → Passed (checks free s (own p x room)) → Edits k s (own p x room) p ps m n t →
        Step s (own p x room) (edited ps m n) t
    links : (s t : State V P) (u v : ℕ) (x : P) (room : ℕ) (ps : List ℕ) (m n : ℕ) → Passed (checks free s (link u v x room)) → Edits k s (link u v x room) v ps m n t →
        Step s (link u v x room) (edited ps m n) t
    unlinks : (s t : State V P) (u v room : ℕ) (ps : List ℕ) (m n : ℕ) → Passed (checks free s (unlink u v room)) → Edits k s (unlink u v room) v ps m n t →
        Step s (unlink u v room) (edited ps m n) t
    labels : (s t : State V P) (p : ℕ) (l : V) → Passed (checks free s (label p)) → Turns k s (label p) t → l ≡ s.label p → Step s (label p) (labelled l) t
    explains : (s t : State V P) (p d room : ℕ) (ps : List ℕ) → Passed (checks free s (explain p d room)) → Turns k s (explain p d room) t →
        (AreJoins k s.ledger s.label → (u : ℕ) × (ρ : Path s.ledger.links u p) × Explains k free s.ledger s.label d p u ρ × (ps ≡ path.places ρ)) →
        Step s (explain p d room) (listed ps (length ps)) t
    lists : (s t : State V P) (d room : ℕ) (ps : List ℕ) → Passed (checks free s (list d room)) → Turns k s (list d room) t → IsList free s d ps → Step s (list d room) (listed ps (length ps)) t
    grants : (s t : State V P) (p d : ℕ) → Passed (checks free s (grant p d)) → Turns k s (grant p d) t → Step s (grant p d) (granted p d) t
    renews : (s t : State V P) (p d new : ℕ) → Passed (checks free s (renew p d new)) → Turns k s (renew p d new) t → Step s (renew p d new) (granted p new) t
    gives_back : (s t : State V P) (p d : ℕ) → Passed (checks free s (give_back p d)) → Turns k s (give_back p d) t → Step s (give_back p d) done t
    discards : (s t : State V P) (p d : ℕ) → Passed (checks free s (discard p d)) → Turns k s (discard p d) t → Step s (discard p d) done t

  -- a run: calls with their answers, in any order, each any number of times or never
  pub data Trace (s : State V P) : List (Event V P) → State V P → Type 0 where
    start : Trace s [] s
    more : (es : List (Event V P)) (t u : State V P) (c : Call V P) (a : Answer V) → Trace s es t → Step t c a u → Trace s (es ++ ((c, a) ∷ [])) u
