-- A new link closes a circle, or leaves the links rising in the ranks as they are or in the moved ones. Assumes nothing.
use Rattle.std.proofs.Common.{◌≡◌, ℕ, ◌<◌, ◌≤◌, Bool, false, ◌↔◌, List, length, refl, inl, inr, ⊎_elim, le_refl, arith}
use Rattle.std.proofs.lemmas.Bool.{cases_Bool, cases_lt}
use Rattle.paths.specs.Kind.{Kind}
use Rattle.paths.specs.Ledger.{Ledger, Inside, Path}
use Rattle.paths.specs.Equations.{Topological}
use Rattle.paths.specs.Calls.{link, next}
use Rattle.paths.specs.Search.{Marks}
use Rattle.paths.specs.Order.{Ranked, moved}
use Rattle.paths.proofs.Calls.{linked, link_each}
use Rattle.paths.proofs.Search.{path_rises, marked_iff}
use Rattle.paths.proofs.Forward.{path_or_none, marks_exist}
use Rattle.paths.proofs.Moves.{moved_rises, turned_rises}
use Rattle.paths.proofs.Permutes.{moved_ranked}

module _ {V P : Type 0} (k : Kind V P) (g : Ledger V P) where
  -- ranks that rise along the old links and from u to v
  pub link_rises : (rank : ℕ → ℕ) → Topological rank g.links → (u v : ℕ) (t : P) → rank u < rank v → Topological rank (next k g (link u v t)).links
  link_rises rank up u v t l = link_each k (λ a b s. rank a < rank b) g u v t l up

  module _ (rank : ℕ → ℕ) (order : List ℕ) (r : Ranked rank order) (up : Topological rank g.links) (inside : Inside (length order) g.links)
      (u v : ℕ) (t : P) (in_u : u < length order) (in_v : v < length order) where
    pub link_turned : rank v ≤ rank u → (Path g.links v u → ⊥) → (marked : ℕ → Bool) → Marks g.links rank v u marked →
        (new : ℕ → ℕ) → Ranked new (moved marked (rank v) (rank u) order) → Topological new (next k g (link u v t)).links
    link_turned turn none marked marks new r' =
        let clear : marked u ≡ false =
        ⊎_elim {C = marked u ≡ false} (λ e. absurd (none ((marked_iff g.links rank up v u marked marks u (le_refl (rank u))).0 e))) (λ e. e) (cases_Bool (marked u)) in
        link_rises new (moved_rises rank order r g.links up inside marked v u marks turn new r') u v t
        (turned_rises rank order r g.links up inside marked v u marks turn new r' in_v in_u clear)

    pub circle_iff : Path g.links v u ↔ ((new : ℕ → ℕ) → Topological new (next k g (link u v t)).links → ⊥)
    circle_iff = (
      λ π new rises.
          let back = path_rises g.links new (λ a b s m. rises a b s ((linked k g u v t a b s).1 (inr m))) π in
          let on = rises u v t ((linked k g u v t u v t).1 (inl (refl, refl, refl))) in
          omega arith,
      λ none. ⊎_elim {C = Path g.links v u} (λ π. π) (λ clear. absurd (⊎_elim {C = ⊥} (λ low. none rank (link_rises rank up u v t low)) (λ turn. turns none clear turn) (cases_lt (rank u) (rank v))))
          (path_or_none g.links rank up v u),
    )
      where
        turns : ((new : ℕ → ℕ) → Topological new (next k g (link u v t)).links → ⊥) → (Path g.links v u → ⊥) → rank v ≤ rank u → ⊥
        turns none clear turn =
            let m = marks_exist g.links rank up v u turn in
            let n = (moved_ranked rank order r m.0 (rank v) (rank u) turn).1 in
            none n.0 (link_turned turn clear m.0 m.1 n.0 n.1)
