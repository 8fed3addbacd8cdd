-- What an edit has to answer. Assumes nothing.
use Rattle.std.proofs.Common.{◌≡◌, ℕ, Bool, true, not, ◌↔◌, List, length, filter, sym, ap, ◌∙◌, subst, ⊎_elim}
use mathlib.Core.Path.{fun_ext}
use Rattle.std.proofs.lemmas.Bool.{both_ways, not-true, not_from_false, cases_Bool}
use Rattle.paths.specs.Kind.{Kind, Laws}
use Rattle.paths.specs.Ledger.{Ledger, AreJoins}
use Rattle.paths.specs.Equations.{Balanced}
use Rattle.paths.specs.Edits.{Edit, Relabelled}
use Rattle.paths.specs.Reports.{Changed, Reported, IsReport, Number, Tells}
use Rattle.paths.specs.Walk.{Recomputed}
use Rattle.paths.proofs.Joins.{fixed_is_join, join_unique}
use Rattle.paths.proofs.Exists.{joins_balance}
use Rattle.paths.proofs.Edits.{relabelled}
use Rattle.paths.proofs.Reports.{changed_reported}
use Rattle.paths.proofs.Numbers.{report_one, number_one, number_kept}

module _ {V P : Type 0} {k : Kind V P} (laws : Laws k) where
  pub old_balanced : (g h : Ledger V P) (e : ℕ) (old : ℕ → V) → Edit k g h e old → Balanced k g old
  old_balanced g h e old edit = joins_balance laws g edit.before edit.rose old edit.was

  module _ (g h : Ledger V P) (e : ℕ) (old new : ℕ → V) (edit : Edit k g h e old) where
    pub suffices : Relabelled k h e old new → AreJoins k h new
    suffices done = fixed_is_join laws h edit.rank new edit.rises (relabelled laws g h e old new (old_balanced g h e old edit) edit.edited done)

    module _ (same : V → V → Bool) (tells : Tells same) (is : AreJoins k h new) where
      pub told : (p : ℕ) → Changed old new p → Reported h e old new p
      told = changed_reported laws same tells g h e old new (old_balanced g h e old edit) (joins_balance laws h edit.rank edit.rises new is) edit.edited

      differs : (p : ℕ) → (not (same (new p) (old p)) ≡ true) ↔ Changed old new p
      differs p = (
        λ e q. both_ways _ (not-true _ e) ((tells (new p) (old p)).1 q),
        λ c. not_from_false _ (⊎_elim (λ e. absurd (c ((tells (new p) (old p)).0 e))) (λ e. e) (cases_Bool (same (new p) (old p)))),
      )

      pub counted : (rank : ℕ → ℕ) (ps : List ℕ) → IsReport h e old new rank ps → Number (Changed old new) (length (filter (λ p. not (same (new p) (old p))) ps))
      counted rank ps r = number_kept rank ps (Changed old new) (λ p. not (same (new p) (old p))) r.rising differs (λ p c. (r.those p).1 (told p c))

  pub answer_one : (h : Ledger V P) (rank : ℕ → ℕ) (e : ℕ) (old new new' : ℕ → V) (ps ps' : List ℕ) (counts counts' : ℕ × ℕ) →
      Recomputed k h rank e old new ps counts → Recomputed k h rank e old new' ps' counts' → ((p : ℕ) → new p ≡ new' p) × (ps ≡ ps') × (counts ≡ counts')
  answer_one h rank e old new new' ps ps' counts counts' a b =
      let same : (p : ℕ) → new p ≡ new' p = λ p. join_unique laws h p _ _ (a.joins p) (b.joins p) in
      let labels : new' ≡ new = sym (fun_ext same) in
      let report : ps ≡ ps' = report_one h e old new rank ps ps' a.report (subst (λ (l : ℕ → V). IsReport h e old l rank ps') labels b.report) in
      let first : counts.0 ≡ counts'.0 = a.first ∙ ap length report ∙ sym b.first in
      let second : counts.1 ≡ counts'.1 =
      number_one (Changed old new) counts.1 counts'.1 a.second (subst (λ (l : ℕ → V). Number (Changed old l) counts'.1) labels b.second) in
      (same, report, λ i. (first i, second i))
