-- A walk up the ranks recomputes, reports and counts as the edit asks. Assumes nothing.
use Rattle.std.proofs.Common.{◌≡◌, ℕ, zero, suc, ◌+◌, ◌-◌, ◌≤◌, List, length, get_or, sym, refl, ap, ◌∙◌, subst, arith}
use Rattle.std.proofs.lemmas.Bool.{eqb-true, eqb-false}
use Rattle.paths.specs.Kind.{Kind, Laws}
use Rattle.paths.specs.Ledger.{Ledger}
use Rattle.paths.specs.Edits.{Edit}
use Rattle.paths.specs.Walk.{State, Progress, Recomputed, Walk}
use Rattle.paths.proofs.Joins.{fixed_is_join}
use Rattle.paths.proofs.Told.{old_balanced}
use Rattle.paths.proofs.Progress.{begun, ended, stepped}
use Rattle.paths.proofs.Permutes.{place_below}

module _ {V P : Type 0} {k : Kind V P} (laws : Laws k) (h : Ledger V P) (rank : ℕ → ℕ) (order : List ℕ) (e : ℕ) (old : ℕ → V) (state : ℕ → State V) (w : Walk k h rank order e old state) where
  -- i ranks above the edited place's
  after_steps : (i : ℕ) → rank e + i ≤ length order → Progress k h rank (length order) e old (rank e + i) (state (rank e + i))
  after_steps zero l =
      let s = w.starts in
      let same : rank e ≡ rank e + 0 = omega arith in
      subst (λ r. Progress k h rank (length order) e old r (state r)) same
      (begun laws h e old rank (length order) w.rises w.inside (rank e) (state (rank e)) refl s.labels s.marks s.told s.count)
  after_steps (suc i) l =
      let r : ℕ = rank e + i in
      let x : ℕ = get_or order r 0 in
      let same : r + 1 ≡ rank e + suc i = omega arith in
      let at = w.ranked.at r (omega arith) in
      subst (λ r. Progress k h rank (length order) e old r (state r)) same
      (stepped laws h e old rank (length order) w.rises w.inside r x (place_below rank order w.ranked r (omega arith)) at (λ p l q. sym (w.ranked.held p l).1 ∙ ap (λ j. get_or order j 0) q) _ (eqb-true x e) (eqb-false x e)
      (state r) (state (r + 1)) (after_steps i (omega arith)) (w.steps r (omega arith) (omega arith)))

  pub on_the_way : (r : ℕ) → rank e ≤ r → r ≤ length order → Progress k h rank (length order) e old r (state r)
  on_the_way r low high =
      let same : rank e + (r - rank e) ≡ r = omega arith in
      subst (λ r. Progress k h rank (length order) e old r (state r)) same (after_steps (r - rank e) (omega arith))

  pub at_the_end : (g : Ledger V P) → Edit k g h e old →
      Recomputed k h rank e old (state (length order)).labels (state (length order)).told (length (state (length order)).told, (state (length order)).changed)
  at_the_end g edit =
      let last = (w.ranked.held e w.place).0 in
      let r =
      ended laws h e old rank (length order) w.rises w.inside g (state (length order)) (λ p l. (w.ranked.held p l).0) w.place (old_balanced laws g h e old edit) edit.edited (on_the_way (length order) (omega arith) (omega arith)) in
      record { balanced = r.0; joins = fixed_is_join laws h rank (state (length order)).labels w.rises r.0; report = r.1; first = refl; second = r.2 }
