-- Over links that rise each place has a join, and the joins are balanced. Assumes nothing.
use Rattle.std.proofs.Common.{◌≡◌, ℕ, zero, suc, ◌<◌, List, sym, ap, not-suc-le-zero, arith}
use Rattle.paths.specs.Kind.{Kind, Laws}
use Rattle.paths.specs.Ledger.{Link, Ledger, Leads, Path, at, over, contribution, IsJoin, AreJoins}
use Rattle.paths.specs.Equations.{inflow, Balanced, Topological}
use Rattle.paths.specs.Edits.{AgreeAt}
use Rattle.paths.proofs.Joins.{fixed_is_join, join_unique}
use Rattle.paths.proofs.Edits.{inflow_eq}

-- the label of p by the paths of fewer than n links
abbrev label_at : {V P : Type 0} → Kind V P → Ledger V P → ℕ → ℕ → V
label_at k g zero p = k.empty
label_at k g (suc n) p = k.join (g.own p) (inflow k (label_at k g n) p g.links)

-- a path over some links is one over others that have them all
move : {P : Type 0} {ls ms : List (Link P)} → ((u v : ℕ) (t : P) → Leads ls u v t → Leads ms u v t) → {u p : ℕ} → Path ls u p → Path ms u p
move f at = at
move f (over {p} {q} π t m) = over (move f π) t (f p q t m)

module _ {V P : Type 0} {k : Kind V P} (laws : Laws k) where
  module _ (g : Ledger V P) (rank : ℕ → ℕ) (up : Topological rank g.links) where
    -- past the rank of its place a label stays
    steady : (n m p : ℕ) → rank p < n → rank p < m → label_at k g n p ≡ label_at k g m p
    steady zero m p l r = absurd (not-suc-le-zero l)
    steady (suc n) zero p l r = absurd (not-suc-le-zero r)
    steady (suc n) (suc m) p l r =
        ap (k.join (g.own p))
        (inflow_eq laws (label_at k g n) (label_at k g m) g p (λ u t h. let lower = up u p t h in steady n m u (omega arith) (omega arith)))

    unfoldable pub label_of : ℕ → V
    label_of p = label_at k g (suc (rank p)) p

    pub label_balanced : Balanced k g label_of
    unfolding label_of
    label_balanced p =
        ap (k.join (g.own p))
        (inflow_eq laws (label_at k g (rank p)) label_of g p (λ u t h. let lower = up u p t h in steady (rank p) (suc (rank u)) u lower (omega arith)))

    pub join_exists : AreJoins k g label_of
    join_exists = fixed_is_join laws g rank label_of up label_balanced

    pub joins_balance : (label : ℕ → V) → AreJoins k g label → Balanced k g label
    joins_balance label joins p =
        let same : (q : ℕ) → label q ≡ label_of q = λ q. join_unique laws g q (label q) (label_of q) (joins q) (join_exists q) in
        let eq = inflow_eq laws label label_of g p (λ u t h. same u) in
        cc (same p, label_balanced p)

  -- what joins a place has depends on the own labels and on which links there are, and on nothing else
  pub join_agree : (g h : Ledger V P) → ((p : ℕ) → AgreeAt g h p) → (p : ℕ) (l : V) → IsJoin k g p l → IsJoin k h p l
  unfolding move
  join_agree g h agree p l j =
      record {
        covers = λ u π. rw (from π) (j.covers u (move (λ u v t. ((agree v).links u t).1) π));
        least = λ m all. j.least m (λ u π. rw (to π) (all u (move (λ u v t. ((agree v).links u t).0) π)));
      }
    where
      to : {u q : ℕ} (π : Path g.links u q) → contribution k g π ≡ contribution k h (move (λ u v t. ((agree v).links u t).0) π)
      to {u} at = (agree u).own
      to (over π t m) = ap (k.carry t) (to π)

      from : {u q : ℕ} (π : Path h.links u q) → contribution k h π ≡ contribution k g (move (λ u v t. ((agree v).links u t).1) π)
      from {u} at = sym (agree u).own
      from (over π t m) = ap (k.carry t) (from π)
