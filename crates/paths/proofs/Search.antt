-- What the walk marks is what a path reaches. Assumes nothing.
use Rattle.std.proofs.Common.{◌≡◌, ℕ, zero, suc, ◌<◌, ◌≤◌, Bool, true, false, ltb, ◌↔◌, List, refl, inl, inr, not-suc-le-zero, arith, ltb-false, ltb-true}
use borrow.Author.Tests.{both_ways}
use Rattle.paths.specs.Ledger.{Link, Path, at, over}
use Rattle.paths.specs.Equations.{Topological}
use Rattle.paths.specs.Search.{Met, Marks}

module _ {P : Type 0} (links : List (Link P)) (rank : ℕ → ℕ) (up : Topological rank links) where
  pub path_rises : {v p : ℕ} → Path links v p → rank v ≤ rank p
  path_rises at = omega arith
  path_rises (over {p} {q} π t m) = let a = path_rises π in let b = up p q t m in omega arith

  module _ (v u : ℕ) (marked : ℕ → Bool) (marks : Marks links rank v u marked) where
    reach : (n p : ℕ) → rank p < n → rank p ≤ rank u → marked p ≡ true → Path links v p
    reach zero p l h e = absurd (not-suc-le-zero l)
    reach (suc n) p l h e = step (met (ltb (rank p) (rank v)) refl) (λ q below e. reach n q (omega arith) (omega arith) e)
      where
        met : (b : Bool) → ltb (rank p) (rank v) ≡ b → Met links v marked p
        met true b = absurd (both_ways (marked p) (marks.below p (ltb-true _ _ b)) e)
        met false b = (marks.within p (ltb-false _ _ b) h).0 e

        step : Met links v marked p → ((q : ℕ) → rank q < rank p → marked q ≡ true → Path links v q) → Path links v p
        step (inl e) back = rw e at
        step (inr (q, t, m, e)) back = over (back q (up q p t m) e) t m

    mark : {p : ℕ} → Path links v p → rank p ≤ rank u → marked p ≡ true
    mark at h = (marks.within v (omega arith) h).1 (inl refl)
    mark (over {p} {q} π t m) h =
        let a = up p q t m in
        let b = path_rises π in
        (marks.within q (omega arith) h).1 (inr (p, t, m, mark π (omega arith)))

    pub marked_iff : (p : ℕ) → rank p ≤ rank u → (marked p ≡ true) ↔ Path links v p
    marked_iff p h = (reach (suc (rank p)) p (omega arith) h, λ π. mark π h)
