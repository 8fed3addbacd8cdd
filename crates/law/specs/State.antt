-- What can be said of a store, and what each call checks. Assumes nothing.
use Rattle.std.specs.Prelude.{◌≡◌, ℕ, ◌<◌, ◌≤◌, Bool, true, false, ◌⊎◌, ◌↔◌, List, [], ◌∷◌, length, filter, ◌≢◌}
use Rattle.paths.specs.Ledger.{Link, Ledger, Leads, Path}
use Rattle.common.specs.Checks.{Check, ◌when◌, Passed, Refused}
use Rattle.law.specs.Calls.{Call, bring, own, link, unlink, label, explain, list, grant, renew, give_back, discard, Answer, refused, done, edited, labelled, listed, granted, Permit, out, is_out}
use Rattle.common.specs.declared.refusal.Refusal.{Refusal}
use Rattle.common.specs.declared.refusal.Refusal.TheVariants.{NoSuchPlace, Absent, Present, Linked, NotLinked, Circle, Full, PermitOut, NoPermit, NotFree, Leaving, ShortList, Free}

-- n places, at most m links, the ledger, the label of each place, the places in the order of their ranks, and the permit that is out
pub record State (V P : Type 0) : Type 0 where
  pub places : ℕ
  pub limit : ℕ
  pub ledger : Ledger V P
  pub label : ℕ → V
  pub order : List ℕ
  pub permit : Permit

-- a link leads from u to v
abbrev pub IsLinked : {P : Type 0} → List (Link P) → ℕ → ℕ → Type 0
IsLinked {P} links u v = (t : P) × Leads links u v t

-- a link leaves p
abbrev pub Leaves : {P : Type 0} → List (Link P) → ℕ → Type 0
Leaves {P} links p = (v : ℕ) × (t : P) × Leads links p v t

-- the checks of each call, in order
module _ {V P : Type 0} (free : ℕ → V → Bool) (s : State V P) where
  abbrev pub checks : Call V P → List (Check Refusal)
  checks (bring p) =
      (PermitOut when (is_out s.permit ≡ true)) ∷ (NoSuchPlace when (s.places ≤ p)) ∷ (Present when (s.ledger.present p ≡ true)) ∷ []
  checks (own p x room) =
      (PermitOut when (is_out s.permit ≡ true)) ∷ (ShortList when (room < s.places)) ∷ (NoSuchPlace when (s.places ≤ p)) ∷ (Absent when (s.ledger.present p ≡ false)) ∷ []
  checks (link u v t room) =
      (PermitOut when (is_out s.permit ≡ true)) ∷ (ShortList when (room < s.places)) ∷
      (NoSuchPlace when ((s.places ≤ u) ⊎ (s.places ≤ v))) ∷ (Absent when ((s.ledger.present u ≡ false) ⊎ (s.ledger.present v ≡ false))) ∷
      (Linked when IsLinked s.ledger.links u v) ∷ (Full when (s.limit ≤ length s.ledger.links)) ∷ (Circle when Path s.ledger.links v u) ∷ []
  checks (unlink u v room) =
      (PermitOut when (is_out s.permit ≡ true)) ∷ (ShortList when (room < s.places)) ∷
      (NoSuchPlace when ((s.places ≤ u) ⊎ (s.places ≤ v))) ∷ (Absent when ((s.ledger.present u ≡ false) ⊎ (s.ledger.present v ≡ false))) ∷
      (NotLinked when (IsLinked s.ledger.links u v → ⊥)) ∷ []
  checks (label p) = (NoSuchPlace when (s.places ≤ p)) ∷ (Absent when (s.ledger.present p ≡ false)) ∷ []
  checks (explain p d room) =
      (ShortList when (room < s.places)) ∷ (NoSuchPlace when (s.places ≤ p)) ∷ (Absent when (s.ledger.present p ≡ false)) ∷ (Free when (free d (s.label p) ≡ true)) ∷ []
  checks (list d room) = (ShortList when (room < s.places)) ∷ []
  checks (grant p d) =
      (PermitOut when (is_out s.permit ≡ true)) ∷ (NoSuchPlace when (s.places ≤ p)) ∷ (Absent when (s.ledger.present p ≡ false)) ∷
      (NotFree when (free d (s.label p) ≡ false)) ∷ (Leaving when Leaves s.ledger.links p) ∷ []
  checks (renew p d new) = (NoPermit when (s.permit ≢ out p d)) ∷ (NotFree when (free new (s.label p) ≡ false)) ∷ []
  checks (give_back p d) = (NoPermit when (s.permit ≢ out p d)) ∷ []
  checks (discard p d) = (NoPermit when (s.permit ≢ out p d)) ∷ []

-- the checks alone decide: a refusal is that of the first check that applies, and where none applies the call is accepted
abbrev pub Decided : {V : Type 0} → List (Check Refusal) → Answer V → Type 0
Decided cs (refused r) = Refused cs r
Decided cs done = Passed cs
Decided cs (edited ps m n) = Passed cs
Decided cs (labelled l) = Passed cs
Decided cs (listed ps n) = Passed cs
Decided cs (granted p d) = Passed cs

-- the same places, own labels and links, in whatever order the links stand: the same ones, and as many that pass any test
pub record Same {V P : Type 0} (g h : Ledger V P) : Type 0 where
  pub present : (p : ℕ) → g.present p ≡ h.present p
  pub own : (p : ℕ) → g.own p ≡ h.own p
  pub links : (u v : ℕ) (t : P) → Leads g.links u v t ↔ Leads h.links u v t
  pub number : (test : Link P → Bool) → length (filter test g.links) ≡ length (filter test h.links)
