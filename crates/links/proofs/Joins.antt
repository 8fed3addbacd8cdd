-- When a link leads from one place to another, or to a place. Assumes nothing.
use Rattle.std.proofs.Common.{◌≡◌, ℕ, true, false, not, eqb, ◌↔◌, ⊎_elim, eq-eqb, ne_eqb, eqb-true}
use borrow.Author.Tests.{both_ways}
use Rattle.std.proofs.lemmas.Bool.{cases_Bool, not-true, not_from_false, and_parts, and_from}
use Rattle.links.specs.declared.row.Link.{Link}
use Rattle.links.specs.Links.{joins, enters}

module _ {R : Type 0} (m : Link R) where
  pub joins_since : (u v : ℕ) → m.source.0 ≡ u → m.target.0 ≡ v → joins u v m ≡ true
  joins_since u v a b = and_from (eqb m.source.0 u) (eqb m.target.0 v) (eq-eqb m.source.0 u a) (eq-eqb m.target.0 v b)

  pub not_joins : (u v : ℕ) → (not (joins u v m) ≡ true) ↔ (m.source.0 ≡ u → m.target.0 ≡ v → ⊥)
  not_joins u v = (
    λ e a b. both_ways (joins u v m) (not-true (joins u v m) e) (joins_since u v a b),
    λ apart. not_from_false (joins u v m) (⊎_elim {C = joins u v m ≡ false}
        (λ t. let q = and_parts (eqb m.source.0 u) (eqb m.target.0 v) t in absurd (apart (eqb-true m.source.0 u q.0) (eqb-true m.target.0 v q.1)))
        (λ f. f)
        (cases_Bool (joins u v m))),
  )

  pub not_enters : (p : ℕ) → (not (enters p m) ≡ true) ↔ (m.target.0 ≡ p → ⊥)
  not_enters p = (
    λ e a. both_ways (enters p m) (not-true (enters p m) e) (eq-eqb m.target.0 p a),
    λ apart. not_from_false (enters p m) (ne_eqb m.target.0 p apart),
  )
