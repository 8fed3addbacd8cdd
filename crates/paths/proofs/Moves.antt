-- The order after a new link: its ranks rise along every link, the new one included. Assumes nothing.
use Rattle.std.proofs.Common.{◌≡◌, ℕ, ◌+◌, ◌-◌, ◌<◌, ◌≤◌, min, Bool, false, List, ◌++◌, length, get_or, take, drop, sym, refl, ap, ◌∙◌, subst, inl, inr, arith, length-drop, take-append-drop, length-take, get_or-drop, get_or-take, drop-drop}
use Rattle.std.specs.List.{ContainsAt as Has}
use Rattle.std.proofs.ByRecursion.{has_get_or}
use Rattle.paths.specs.Ledger.{Link, Leads}
use Rattle.paths.specs.Equations.{Topological}
use Rattle.paths.specs.Search.{Marks}
use Rattle.paths.specs.Order.{Ranked, Before, moved}
use Rattle.paths.proofs.Walks.{before_moved, before_turned, rank_before, before_rank}

-- the places from the rank a on, m of them
abbrev pub span : ℕ → ℕ → List ℕ → List ℕ
span a m order = take m (drop a order)

-- an order is what stands below a, from a to b, and from b on
pub parts : (order : List ℕ) (a b : ℕ) → a ≤ b → order ≡ take a order ++ (span a (b - a) order ++ drop b order)
parts order a b l =
    let same : b ≡ a + (b - a) = omega arith in
    let back : drop b order ≡ drop (b - a) (drop a order) = ap (λ n. drop n order) same ∙ sym (drop-drop (b - a) a order) in
    let rest : span a (b - a) order ++ drop b order ≡ drop a order = ap (λ t. span a (b - a) order ++ t) back ∙ take-append-drop (b - a) (drop a order) in
    sym (ap (λ t. take a order ++ t) rest ∙ take-append-drop a order)

module _ (rank : ℕ → ℕ) (order : List ℕ) (r : Ranked rank order) where
  -- what stands in the span has a rank of it, and the other way round
  pub span_rank : (a m q : ℕ) → Has (span a m order) q → (a ≤ rank q) × (rank q < a + m)
  span_rank a m q h =
      let len : length (span a m order) ≡ min m (length order - a) = length-take m (drop a order) ∙ ap (min m) (length-drop a order) in
      let e : get_or order (a + h.0) 0 ≡ q = sym (get_or-drop a order h.0 0) ∙ sym (get_or-take m (drop a order) h.0 0 (omega arith)) ∙ h.2 0 in
      let k : rank q ≡ a + h.0 = ap rank (sym e) ∙ r.at (a + h.0) (omega arith) in
      omega arith

  pub rank_span : (a m q : ℕ) → q < length order → a ≤ rank q → rank q < a + m → Has (span a m order) q
  rank_span a m q l low high =
      let i : ℕ = rank q - a in
      let len : length (span a m order) ≡ min m (length order - a) = length-take m (drop a order) ∙ ap (min m) (length-drop a order) in
      let h = r.held q l in
      let same : a + i ≡ rank q = omega arith in
      let e : get_or (span a m order) i 0 ≡ q = get_or-take m (drop a order) i 0 (omega arith) ∙ get_or-drop a order i 0 ∙ ap (λ n. get_or order n 0) same ∙ h.1 in
      subst (Has (span a m order)) e (has_get_or (span a m order) i 0 (omega arith))

  module _ {P : Type 0} (links : List (Link P)) (up : Topological rank links) (inside : (p q : ℕ) (t : P) → Leads links p q t → (p < length order) × (q < length order))
      (marked : ℕ → Bool) (v u : ℕ) (marks : Marks links rank v u marked) (turn : rank v ≤ rank u) (new : ℕ → ℕ) (r' : Ranked new (moved marked (rank v) (rank u) order)) where
    pub moved_rises : Topological new links
    moved_rises p q t m =
        let in' = inside p q t m in
        let old : Before order p q = before_rank rank order r p q in'.0 in'.1 (up p q t m) in
        let cut = subst (λ o. Before o p q) (parts order (rank v) (rank u + 1) (omega arith)) old in
        rank_before new _ r' p q
        (before_moved marked (take (rank v) order) _ (drop (rank u + 1) order) p q
        (λ e h. let s = span_rank (rank v) (rank u + 1 - rank v) q h in (marks.within q s.0 (omega arith)).1 (inr (p, t, m, e))) cut)

    pub turned_rises : v < length order → u < length order → marked u ≡ false → new u < new v
    turned_rises a b clear =
        rank_before new _ r' u v
        (before_turned marked (take (rank v) order) _ (drop (rank u + 1) order) u v
        (rank_span (rank v) (rank u + 1 - rank v) u b turn (omega arith)) (rank_span (rank v) (rank u + 1 - rank v) v a (omega arith) (omega arith)) clear
        ((marks.within v (omega arith) turn).1 (inl refl)))
