-- A place that changed is reported. Assumes nothing.
use Rattle.std.proofs.Common.{◌≡◌, ℕ, Bool, ◌⊎◌, sym, inl, inr, ⊎_elim}
use Rattle.std.proofs.lemmas.Bool.{both_ways, cases_eq, cases_Bool}
use Rattle.paths.specs.Kind.{Kind, Laws}
use Rattle.paths.specs.Ledger.{Ledger}
use Rattle.paths.specs.Equations.{Balanced}
use Rattle.paths.specs.Edits.{Edited}
use Rattle.paths.specs.Reports.{Changed, Reported, Tells}
use Rattle.paths.proofs.Sources.{some_source}
use Rattle.paths.proofs.Edits.{unchanged}

module _ {V P : Type 0} {k : Kind V P} (laws : Laws k) (same : V → V → Bool) (tells : Tells same) where
  changed_or_not : (old new : ℕ → V) (q : ℕ) → Changed old new q ⊎ (old q ≡ new q)
  changed_or_not old new q =
      ⊎_elim (λ e. inr (sym ((tells (new q) (old q)).0 e))) (λ e. inl (λ i. both_ways _ e ((tells (new q) (old q)).1 i))) (cases_Bool (same (new q) (old q)))

  pub changed_reported : (g h : Ledger V P) (e : ℕ) (old new : ℕ → V) → Balanced k g old → Balanced k h new → Edited g h e → (p : ℕ) → Changed old new p → Reported h e old new p
  changed_reported g h e old new a b edited p c =
      ⊎_elim inl
      (λ other.
      ⊎_elim inr (λ all. absurd (c (sym (unchanged laws g h old new a b p (edited p other) all))))
      (some_source (Changed old new) (λ q. old q ≡ new q) p h.links (λ q t m. changed_or_not old new q)))
      (cases_eq p e)
