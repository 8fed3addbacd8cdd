-- The ledger: what the accepted calls make of the places, own labels and links. Assumes nothing.
use Rattle.std.specs.Prelude.{ℕ, Bool, true, false, cond, not, ◌&&◌, List, [], ◌∷◌, filter, ◌==◌}
use Rattle.paths.specs.Kind.{Kind}
use Rattle.paths.specs.Ledger.{Link, Ledger}

-- the calls that can change the ledger, with their arguments
pub data Call (V P : Type 0) : Type 0 where
  bring : ℕ → Call V P
  own : ℕ → V → Call V P
  link : ℕ → ℕ → P → Call V P
  unlink : ℕ → ℕ → Call V P
  discard : ℕ → Call V P
  -- every other call
  look : Call V P

-- f with x at p
abbrev pub put : {X : Type 0} → (ℕ → X) → ℕ → X → ℕ → X
put f p x q = cond (q == p) x (f q)

-- the link leads from u to v
abbrev pub joins : {P : Type 0} → ℕ → ℕ → Link P → Bool
joins u v l = l.source == u && l.target == v

-- the link leads to p
abbrev pub enters : {P : Type 0} → ℕ → Link P → Bool
enters p l = l.target == p

-- the ledger after an accepted call: bring makes a place present, own replaces its own label, link adds a link and unlink takes it away,
-- discard takes away every link into the place, empties its own label and makes it absent
abbrev pub next : {V P : Type 0} → Kind V P → Ledger V P → Call V P → Ledger V P
next k g (bring p) = record { present = put g.present p true; own = g.own; links = g.links }
next k g (own p x) = record { present = g.present; own = put g.own p x; links = g.links }
next k g (link u v t) = record { present = g.present; own = g.own; links = record { source = u; target = v; passage = t } ∷ g.links }
next k g (unlink u v) = record { present = g.present; own = g.own; links = filter (λ l. not (joins u v l)) g.links }
next k g (discard p) = record { present = put g.present p false; own = put g.own p k.empty; links = filter (λ l. not (enters p l)) g.links }
next k g look = g

-- no place present, every own label empty and no link
abbrev pub at_first : {V P : Type 0} → Kind V P → Ledger V P
at_first k = record { present = λ p. false; own = λ p. k.empty; links = [] }

-- the ledger after a list of calls, each with whether it was accepted; a refused call changes nothing
abbrev pub after : {V P : Type 0} → Kind V P → Ledger V P → List (Call V P × Bool) → Ledger V P
after k g [] = g
after k g (c ∷ cs) = after k (cond c.1 (next k g c.0) g) cs
