-- The calls that a store can undergo after its making, what they answer, and the ledger and the permit that are fed by them. Assumes nothing.
use Rattle.std.specs.Prelude.{ℕ, Bool, true, false, cond, List, [], ◌∷◌}
use Rattle.paths.specs.Kind.{Kind}
use Rattle.paths.specs.Ledger.{Ledger}
use Rattle.paths.specs.Calls.{next, at_first}
use Rattle.paths.specs.Calls as ledger
use Rattle.common.specs.declared.refusal.Refusal.{Refusal}

-- V are the values of labels, P the passages; p, u and v are place numbers, d and new days, room is the length of the caller's list;
-- renew, give_back and discard present a permit for the place p and the day d, wherever it came from
pub data Call (V P : Type 0) : Type 0 where
  bring : (p : ℕ) → Call V P
  own : (p : ℕ) (x : V) (room : ℕ) → Call V P
  link : (u v : ℕ) (t : P) (room : ℕ) → Call V P
  unlink : (u v room : ℕ) → Call V P
  label : (p : ℕ) → Call V P
  explain : (p d room : ℕ) → Call V P
  list : (d room : ℕ) → Call V P
  grant : (p d : ℕ) → Call V P
  renew : (p d new : ℕ) → Call V P
  give_back : (p d : ℕ) → Call V P
  discard : (p d : ℕ) → Call V P

pub data Answer (V : Type 0) : Type 0 where
  refused : (r : Refusal) → Answer V
  -- of bring, give back and discard
  done : Answer V
  -- of own, link and unlink: the places written to the caller's list, and the two counts
  edited : (ps : List ℕ) (reported changed : ℕ) → Answer V
  -- of label
  labelled : (l : V) → Answer V
  -- of list and explain: the places written to the caller's list, and the count
  listed : (ps : List ℕ) (count : ℕ) → Answer V
  -- of grant and renew: a permit for this place and day
  granted : (p d : ℕ) → Answer V

abbrev pub accepted : {V : Type 0} → Answer V → Bool
accepted (refused r) = false
accepted done = true
accepted (edited ps m n) = true
accepted (labelled l) = true
accepted (listed ps n) = true
accepted (granted p d) = true

-- a call with what it answered; a history is a list of them, the first call first
abbrev pub Event : Type 0 → Type 0 → Type 0
Event V P = Call V P × Answer V

-- the ledger after an accepted call
abbrev pub fed : {V P : Type 0} → Kind V P → Ledger V P → Call V P → Ledger V P
fed k g (bring p) = next k g (ledger.bring p)
fed k g (own p x room) = next k g (ledger.own p x)
fed k g (link u v t room) = next k g (ledger.link u v t)
fed k g (unlink u v room) = next k g (ledger.unlink u v)
fed k g (label p) = g
fed k g (explain p d room) = g
fed k g (list d room) = g
fed k g (grant p d) = g
fed k g (renew p d new) = g
fed k g (give_back p d) = g
fed k g (discard p d) = next k g (ledger.discard p)

-- the ledger after any call: a refused one changes nothing
abbrev pub then : {V P : Type 0} → Kind V P → Ledger V P → Event V P → Ledger V P
then k g e = cond (accepted e.1) (fed k g e.0) g

abbrev pub ledger_from : {V P : Type 0} → Kind V P → Ledger V P → List (Event V P) → Ledger V P
ledger_from k g [] = g
ledger_from k g (e ∷ es) = ledger_from k (then k g e) es

-- the ledger after a history: at first no place is present, every own label is empty and there is no link
abbrev pub ledger_after : {V P : Type 0} → Kind V P → List (Event V P) → Ledger V P
ledger_after k es = ledger_from k (at_first k) es

-- the permit that is out of a store, if one is
pub data Permit : Type 0 where
  none : Permit
  out : (p d : ℕ) → Permit

abbrev pub is_out : Permit → Bool
is_out none = false
is_out (out p d) = true

-- the permit that is out after an accepted call
abbrev pub hands : {V P : Type 0} → Permit → Call V P → Permit
hands x (bring p) = x
hands x (own p y room) = x
hands x (link u v t room) = x
hands x (unlink u v room) = x
hands x (label p) = x
hands x (explain p d room) = x
hands x (list d room) = x
hands x (grant p d) = out p d
hands x (renew p d new) = out p new
hands x (give_back p d) = none
hands x (discard p d) = none

abbrev pub permit_from : {V P : Type 0} → Permit → List (Event V P) → Permit
permit_from x [] = x
permit_from x (e ∷ es) = permit_from (cond (accepted e.1) (hands x e.0) x) es

abbrev pub permit_after : {V P : Type 0} → List (Event V P) → Permit
permit_after es = permit_from none es
