-- Over rising links it is decided what paths reach, and the forward set is what a walk marks. Assumes nothing.
use Rattle.std.proofs.Common.{◌≡◌, ℕ, zero, suc, ◌<◌, ◌≤◌, Bool, true, false, ◌⊎◌, ◌↔◌, List, refl, inl, inr, ⊎_elim, not-suc-le-zero, arith}
use Rattle.std.proofs.lemmas.Bool.{both_ways, cases_eq, cases_Bool}
use Rattle.paths.specs.Ledger.{Link, Leads, Path, at, over}
use Rattle.paths.specs.Equations.{Topological}
use Rattle.paths.specs.Search.{Forward, Met, Marks}
use Rattle.paths.proofs.Sources.{some_source}
use Rattle.paths.proofs.Search.{path_rises}

last_link : {P : Type 0} {links : List (Link P)} {v p : ℕ} → Path links v p → (p ≡ v) ⊎ ((q : ℕ) × (t : P) × Leads links q p t × Path links v q)
last_link at = inl refl
last_link (over {p = q} π t m) = inr (q, t, m, π)

abbrev bit : {A : Type 0} → A ⊎ (A → ⊥) → Bool
bit (inl a) = true
bit (inr n) = false

bit_iff : {A : Type 0} (d : A ⊎ (A → ⊥)) → (bit d ≡ true) ↔ A
bit_iff (inl a) = (λ e. a, λ x. refl)
bit_iff (inr n) = (λ e. absurd (both_ways false refl e), λ x. absurd (n x))

module _ {P : Type 0} (links : List (Link P)) (rank : ℕ → ℕ) (up : Topological rank links) where
  below : (v n p : ℕ) → rank p < n → Path links v p ⊎ (Path links v p → ⊥)
  below v zero p l = absurd (not-suc-le-zero l)
  below v (suc n) p l =
      ⊎_elim (λ e. inl (rw e at))
      (λ other.
      ⊎_elim (λ r. inl (over r.3 r.1 r.2)) (λ none. inr (λ π. ⊎_elim other (λ s. none s.0 s.1 s.2 s.3) (last_link π)))
      (some_source (Path links v) (λ q. Path links v q → ⊥) p links (λ q t m. let lower = up q p t m in below v n q (omega arith))))
      (cases_eq p v)

  pub path_or_none : (v p : ℕ) → Path links v p ⊎ (Path links v p → ⊥)
  path_or_none v p = below v (suc (rank p)) p (omega arith)

  reached : ℕ → ℕ → Bool
  reached v p = bit (path_or_none v p)

  reached_iff : (v p : ℕ) → (reached v p ≡ true) ↔ Path links v p
  unfolding reached
  reached_iff v p = bit_iff (path_or_none v p)

  -- what is marked by the paths from v is marked by the links, one after another
  pub forward_marks : (v u : ℕ) → rank v ≤ rank u → (marked : ℕ → Bool) → Forward links rank v u marked → Marks links rank v u marked
  forward_marks v u le marked forward =
      record {
        below = λ p l. ⊎_elim {C = marked p ≡ false} (λ e. let a = path_rises links rank up ((forward p (omega arith)).0 e) in absurd (omega arith)) (λ e. e) (cases_Bool (marked p));
        within = λ p l h. (λ e. met p h (last_link ((forward p h).0 e)), λ m. (forward p h).1 (path p h m));
      }
    where
      met : (p : ℕ) → rank p ≤ rank u → (p ≡ v) ⊎ ((q : ℕ) × (t : P) × Leads links q p t × Path links v q) → Met links v marked p
      met p h (inl e) = inl e
      met p h (inr (q, t, m, π)) = let lower = up q p t m in inr (q, t, m, (forward q (omega arith)).1 π)

      path : (p : ℕ) → rank p ≤ rank u → Met links v marked p → Path links v p
      path p h (inl e) = rw e at
      path p h (inr (q, t, m, e)) = let lower = up q p t m in over ((forward q (omega arith)).0 e) t m

  pub marks_exist : (v u : ℕ) → rank v ≤ rank u → (marked : ℕ → Bool) × Marks links rank v u marked
  marks_exist v u le = (reached v, forward_marks v u le (reached v) (λ p l. reached_iff v p))
