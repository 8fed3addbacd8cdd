-- A walk up the ranks can always be made, so every edit has an answer. Assumes nothing.
use Rattle.std.proofs.Common.{◌≡◌, ℕ, zero, suc, ◌+◌, ◌<◌, ◌≤◌, Bool, true, false, cond, eqb, ltb, ◌⊎◌, List, [], ◌∷◌, ◌++◌, length, get_or, sym, refl, ◌∙◌, subst, inl, inr, ⊎_elim, add-one, arith}
use Rattle.std.proofs.lemmas.Bool.{both_ways, cases_Bool, cases_eq, lt-ltb, le-ltb, cond-true, cond-false}
use Rattle.paths.specs.Kind.{Kind, Laws}
use Rattle.paths.specs.Ledger.{Ledger, Leads, Inside}
use Rattle.paths.specs.Equations.{inflow, Topological}
use Rattle.paths.specs.Calls.{put}
use Rattle.paths.specs.Edits.{Edit}
use Rattle.paths.specs.Reports.{Tells}
use Rattle.paths.specs.Order.{Ranked}
use Rattle.paths.specs.Walk.{State, Put, Passed, Redone, Stepped, Started, Walk, Recomputed}
use Rattle.paths.proofs.Sources.{some_source}
use Rattle.paths.proofs.Calls.{put_other, put_there}
use Rattle.paths.proofs.Recomputes.{at_the_end}

put_is : {X : Type 0} (f : ℕ → X) (p : ℕ) (x : X) → Put f (put f p x) p x
put_is f p x = record { here = put_there f p x; other = λ q n. sym (put_other f p x q n) }

module _ {V P : Type 0} (k : Kind V P) (same : V → V → Bool) (tells : Tells same) (h : Ledger V P) where
  -- the place x is recomputed
  redo : (edited : Bool) (x : ℕ) (s : State V) → (edited ≡ true) ⊎ ((q : ℕ) × (t : P) × Leads h.links q x t × (s.marks q ≡ 1)) → (t : State V) × Redone k h edited x s t
  redo edited x s cause = ⊎_elim stays turns (cases_Bool (same label (s.labels x)))
    where
      label : V
      label = k.join (h.own x) (inflow k s.labels x h.links)

      stays : same label (s.labels x) ≡ true → (t : State V) × Redone k h edited x s t
      stays e = (
        record { labels = s.labels; marks = s.marks; told = s.told ++ (x ∷ []); changed = s.changed },
        record {
          cause = cause;
          label = record { here = sym ((tells label (s.labels x)).0 e); other = λ q n. refl };
          told = refl;
          marks = inl (record { labels = λ q. refl; marks = λ q. refl; count = refl });
        },
      )

      turns : same label (s.labels x) ≡ false → (t : State V) × Redone k h edited x s t
      turns e = (
        record { labels = put s.labels x label; marks = put s.marks x 1; told = s.told ++ (x ∷ []); changed = s.changed + 1 },
        record {
          cause = cause;
          label = put_is s.labels x label;
          told = refl;
          marks = inr (record {
            label = λ q. both_ways (same label (s.labels x)) e ((tells label (s.labels x)).1 (sym (put_there s.labels x label) ∙ q));
            marks = put_is s.marks x 1;
            count = refl;
          });
        },
      )

  step : (edited : Bool) (x : ℕ) (s : State V) → (t : State V) × Stepped k h edited x s t
  step edited x s = ⊎_elim (λ e. redone (inl e)) (λ e. ⊎_elim (λ r. redone (inr r)) (λ none. (s, inl (passed e none))) fed) (cases_Bool edited)
    where
      redone : (edited ≡ true) ⊎ ((q : ℕ) × (t : P) × Leads h.links q x t × (s.marks q ≡ 1)) → (t : State V) × Stepped k h edited x s t
      redone cause = let r = redo edited x s cause in (r.0, inr r.1)

      fed : ((q : ℕ) × (t : P) × Leads h.links q x t × (s.marks q ≡ 1)) ⊎ ((q : ℕ) (t : P) → Leads h.links q x t → s.marks q ≡ 1 → ⊥)
      fed = some_source (λ q. s.marks q ≡ 1) (λ q. s.marks q ≡ 1 → ⊥) x h.links (λ q t m. cases_eq (s.marks q) 1)

      passed : edited ≡ false → ((q : ℕ) (t : P) → Leads h.links q x t → s.marks q ≡ 1 → ⊥) → Passed h edited x s s
      passed e none = record { other = e; unfed = none; same = record { labels = λ q. refl; marks = λ q. refl; count = refl }; told = refl }

  module _ (rank : ℕ → ℕ) (order : List ℕ) (e : ℕ) (old : ℕ → V) where
    start : State V
    start = record { labels = old; marks = λ p. 0; told = []; changed = 0 }

    -- the state before each rank: it stays up to the edited place's
    state : ℕ → State V
    state zero = start
    state (suc r) = cond (ltb r (rank e)) start (step (eqb (get_or order r 0) e) (get_or order r 0) (state r)).0

    started : (r : ℕ) → r ≤ rank e → state r ≡ start
    unfolding state
    started zero l = refl
    started (suc r) l = cond-true _ _ _ (lt-ltb r (rank e) (omega arith))

    made : Ranked rank order → Topological rank h.links → Inside (length order) h.links → e < length order → Walk k h rank order e old state
    unfolding state start
    made ranked rises inside place =
        record {
          ranked = ranked;
          rises = rises;
          inside = inside;
          place = place;
          starts = subst (Started (length order) old) (sym (started (rank e) (omega arith))) (record { labels = λ p. refl; marks = λ p l. refl; told = refl; count = refl });
          steps = λ r low high.
              let x : ℕ = get_or order r 0 in
              let next = step (eqb x e) x (state r) in
              let there : state (suc r) ≡ next.0 = cond-false (ltb r (rank e)) start next.0 (le-ltb r (rank e) low) in
              rw add-one (subst (Stepped k h (eqb x e) x (state r)) (sym there) next.1);
        }

pub answer_exists : {V P : Type 0} {k : Kind V P} → Laws k → (same : V → V → Bool) → Tells same → (g h : Ledger V P) (e : ℕ) (old : ℕ → V) → Edit k g h e old →
    (rank : ℕ → ℕ) (order : List ℕ) → Ranked rank order → Topological rank h.links → Inside (length order) h.links → e < length order →
    (new : ℕ → V) × (told : List ℕ) × (counts : ℕ × ℕ) × Recomputed k h rank e old new told counts
answer_exists {V} {k = k} laws same tells g h e old edit rank order ranked rises inside place =
    let walk = made k same tells h rank order e old ranked rises inside place in
    let last : State V = state k same tells h rank order e old (length order) in
    (last.labels, last.told, (length last.told, last.changed), at_the_end laws h rank order e old (state k same tells h rank order e old) walk g edit)
