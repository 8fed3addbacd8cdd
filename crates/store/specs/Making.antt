-- How a store is made. Assumes nothing.
use Rattle.std.specs.Prelude.{◌≡◌, ℕ, drop, vec_items, MatchResult}
use Rattle.common.specs.Checks.{Refused, Passed}
use Rattle.common.specs.declared.refusal.Refusal.{Refusal}
use Rattle.std.specs.declared.cmp.PartialEq.{Ghosts as Eqs}
use Rattle.kinds.specs.declared.kind.LabelKind.{Ghosts}
use Rattle.kinds.specs.Meanings.{Meaning}
use Rattle.order.specs.Marks.{Clean}
use Rattle.law.specs.Steps.{New}
use Rattle.tables.specs.declared.tables.Tables.{Tables}
use Rattle.tables.specs.Making.{making}
use Rattle.store.specs.declared.store.Store.{Store}
use Rattle.store.specs.View.{view}

module _ {K P R S : Type 0} {G : Ghosts K P R S} {E : Eqs K} (means : Meaning K P R S) (old : Tables R S) (n m : ℕ) where
  -- s is a new store of n places for m links; of the mark bytes the first n are zero, and the later ones are as they were
  pub record Made (s : Store K P R S G E) : Type 0 where
    pub passed : Passed (making old n m)
    pub new : New means.kind n m (view means s)
    pub clean : Clean n (vec_items s.columns.tables.now.marks)
    pub past : drop n (vec_items s.columns.tables.now.marks) ≡ drop n (vec_items old.marks)

  -- making was refused: s has no places, and the lent tables are as they were
  pub record Unmade (s : Store K P R S G E) (e : Refusal) : Type 0 where
    pub refused : Refused (making old n m) e
    pub new : New means.kind 0 0 (view means s)
    pub same : s.columns.tables.now ≡ old

  abbrev pub Makes : Store K P R S G E → Type 0
  Makes s = MatchResult s.made (λ _. Made s) (Unmade s)
