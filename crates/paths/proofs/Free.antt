-- When a label is free, by the paths into its place. Assumes nothing.
use Rattle.std.proofs.Common.{◌≡◌, ℕ, suc, ◌<◌, Bool, true, ◌↔◌, subst, ⊎_elim, arith}
use Rattle.std.proofs.lemmas.Bool.{and_parts, both_ways, cases_Bool}
use Rattle.paths.specs.Kind.{Kind, Laws, FreeLaws, Within}
use Rattle.paths.specs.Ledger.{Ledger, Path, contribution, IsJoin}
use Rattle.paths.specs.Equations.{Topological}
use Rattle.paths.specs.Explain.{KeepsEnd}
use Rattle.paths.proofs.Joins.{path_ind, join_unique}
use Rattle.paths.proofs.Exists.{label_of, label_balanced, join_exists}

module _ {V P : Type 0} {k : Kind V P} (laws : Laws k) {free : ℕ → V → Bool} (free_laws : FreeLaws k free) where
  pub free_within : (d : ℕ) (x y : V) → Within k x y → free d y ≡ true → free d x ≡ true
  free_within d x y h f = (and_parts (free d x) (free d y) (cc (free_laws.of_join d x y))).0

  -- this half holds of any join
  pub paths_from_free : (g : Ledger V P) (p d : ℕ) (l : V) → IsJoin k g p l → free d l ≡ true → (u : ℕ) (π : Path g.links u p) → free d (contribution k g π) ≡ true
  paths_from_free g p d l j f u π = free_within d _ l (j.covers u π) f

  free_from_paths : (g : Ledger V P) (rank : ℕ → ℕ) → Topological rank g.links → (p d : ℕ) (l : V) → IsJoin k g p l → 0 < d →
      ((u : ℕ) (π : Path g.links u p) → free d (contribution k g π) ≡ true) → free d l ≡ true
  free_from_paths g rank up p d l j day all =
      let same : label_of laws g rank up p ≡ l = join_unique laws g p _ l (join_exists laws g rank up p) j in
      subst (λ x. free d x ≡ true) same
      (path_ind laws g rank (label_of laws g rank up) up (label_balanced laws g rank up) (suc (rank p)) p (omega arith) (λ x. free d x ≡ true) (free_laws.of_empty d day)
      (λ x y a b. cc (free_laws.of_join d x y)) all)

  pub free_iff : (g : Ledger V P) (rank : ℕ → ℕ) → Topological rank g.links → (p d : ℕ) (l : V) → IsJoin k g p l → 0 < d →
      (free d l ≡ true) ↔ ((u : ℕ) (π : Path g.links u p) → KeepsEnd k free g d π → ⊥)
  free_iff g rank up p d l j day = (
    λ f u π kept. both_ways _ kept (paths_from_free g p d l j f u π),
    λ none. free_from_paths g rank up p d l j day (λ u π. ⊎_elim (λ e. e) (λ e. absurd (none u π e)) (cases_Bool (free d (contribution k g π)))),
  )
