-- What a call does, as the law has it. Assumes nothing.
use Rattle.std.specs.Prelude.{◌≡◌, ℕ, ◌<◌, ◌≤◌, Bool, true, false, ◌⊎◌, List, [], ◌∷◌, take, vec_items}
use Rattle.common.specs.Checks.{Check, ◌when◌, Refused, Passed}
use Rattle.common.specs.declared.refusal.Refusal.{Refusal}
use Rattle.common.specs.declared.refusal.Refusal.TheVariants.{PermitOut, ShortList, NoSuchPlace, Absent}
use Rattle.paths.specs.Kind.{Kind}
use Rattle.law.specs.Calls.{Call, is_out}
use Rattle.law.specs.State.{State, checks}
use Rattle.law.specs.Steps.{Turns, Edits}
use Rattle.recompute.specs.Tables.{numbers}
use Rattle.std.specs.declared.cmp.PartialEq.{Ghosts as Eqs}
use Rattle.kinds.specs.declared.kind.LabelKind.{Ghosts}
use Rattle.kinds.specs.Meanings.{Meaning}
use Rattle.common.specs.declared.number.PlaceNumber.{PlaceNumber}
use Rattle.store.specs.declared.store.Store.{Store}

module _ {V P : Type 0} (k : Kind V P) (free : ℕ → V → Bool) where
  -- the call, which is no edit, was accepted and led from s to t
  pub record Accepts (s : State V P) (c : Call V P) (t : State V P) : Type 0 where
    pub passed : Passed (checks free s c)
    pub turns : Turns k s c t

  -- the call was refused with e, and t is s
  pub record Refuses (s : State V P) (c : Call V P) (e : Refusal) (t : State V P) : Type 0 where
    pub refused : Refused (checks free s c) e
    pub same : t ≡ s

-- the checks that link and unlink share, the first of each
abbrev pub end_checks : {V P : Type 0} → State V P → ℕ → ℕ → ℕ → List (Check Refusal)
end_checks s u v room =
    (PermitOut when (is_out s.permit ≡ true)) ∷ (ShortList when (room < s.places)) ∷
    (NoSuchPlace when ((s.places ≤ u) ⊎ (s.places ≤ v))) ∷ (Absent when ((s.ledger.present u ≡ false) ⊎ (s.ledger.present v ≡ false))) ∷ []

-- the edit c at e was accepted and led from s to t, with these places written to the list and these counts
pub record EditAccepts {K P R S : Type 0} (means : Meaning K P R S) (s : State means.Value P) (c : Call means.Value P) (e : ℕ) (list : List PlaceNumber) (counts : ℕ × ℕ) (t : State means.Value P) : Type 0 where
  pub passed : Passed (checks means.free s c)
  pub edits : Edits means.kind s c e (numbers (take counts.0 list)) counts.0 counts.1 t

-- what every call leaves: how the making went, and the mark bytes
pub record Keeps {K P R S : Type 0} {G : Ghosts K P R S} {E : Eqs K} (s t : Store K P R S G E) : Type 0 where
  pub made : t.made ≡ s.made
  pub marks : vec_items t.columns.tables.now.marks ≡ vec_items s.columns.tables.now.marks
