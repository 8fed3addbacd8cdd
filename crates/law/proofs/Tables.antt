-- For a store that keeps its ranks in a table: the rank there is the place's in the order. Assumes nothing.
use Rattle.std.proofs.Common.{◌≡◌, ℕ, suc, ◌<◌, ◌≤◌, Bool, true, false, cond, eqb, ◌↔◌, List, [], ◌∷◌, length, get_or, refl, ap, ◌∙◌, subst, not-suc-le-zero, arith}
use Rattle.std.specs.List.{ContainsAt as Has}
use Rattle.std.proofs.ByRecursion.{has_get_or}
use Rattle.std.proofs.lemmas.Bool.{eqb-true}
use Rattle.paths.specs.Kind.{Kind}
use Rattle.paths.specs.Ledger.{Link, Ledger, Path}
use Rattle.paths.specs.Order.{Ranked, rank_in, moved}
use Rattle.paths.specs.Reports.{IsReport}
use Rattle.paths.specs.Search.{Forward}
use Rattle.paths.specs.Walk.{Recomputed}
use Rattle.paths.proofs.Permutes.{place_below, ranked_one}
use Rattle.law.specs.Ranks.{LinkMoves}
use Rattle.law.proofs.Orders.{whole_from}

-- a rank within the order is that of a place that stands there
rank_hit : (o : List ℕ) (p : ℕ) → rank_in o p < length o → get_or o (rank_in o p) 0 ≡ p
rank_hit [] p l = absurd (not-suc-le-zero l)
rank_hit (x ∷ xs) p l = go (rank_hit xs p) (eqb x p) refl l
  where
    go : (rank_in xs p < length xs → get_or xs (rank_in xs p) 0 ≡ p) → (b : Bool) → eqb x p ≡ b → cond b 0 (suc (rank_in xs p)) < suc (length xs) → get_or (x ∷ xs) (cond b 0 (suc (rank_in xs p))) 0 ≡ p
    go rest true e m = eqb-true x p e
    go rest false e m = rest (omega arith)

module _ (rank : ℕ → ℕ) (o : List ℕ) (r : Ranked rank o) where
  pub rank_is : (p : ℕ) → p < length o → rank p ≡ rank_in o p
  rank_is = ranked_one o rank (rank_in o) r (whole_from rank o r)

  -- a forward set by the table is one by the order
  forward_rank : {P : Type 0} (links : List (Link P)) (v u : ℕ) (marked : ℕ → Bool) → u < length o →
      ((p : ℕ) → p < length o → rank p ≤ rank u → (marked p ≡ true) ↔ Path links v p) → Forward links (rank_in o) v u marked
  forward_rank links v u marked in_u reached p l =
      let top = r.held u in_u in
      let same = rank_is u in_u in
      let low : rank_in o p < length o = omega arith in
      let in_p : p < length o = subst (λ (q : ℕ). q < length o) (rank_hit o p low) (place_below rank o r (rank_in o p) low) in
      let here = rank_is p in_p in
      reached p in_p (omega arith)

  -- what a link does to the order by the table's ranks, it does by the order's
  pub moves_rank : {P : Type 0} (links : List (Link P)) (u v : ℕ) (new : List ℕ) → u < length o → v < length o → (rank u < rank v → new ≡ o) →
      (rank v ≤ rank u → (marked : ℕ → Bool) × ((p : ℕ) → p < length o → rank p ≤ rank u → (marked p ≡ true) ↔ Path links v p) × (new ≡ moved marked (rank v) (rank u) o)) →
      LinkMoves links u v o new
  moves_rank links u v new in_u in_v still moves =
      let eu = rank_is u in_u in
      let ev = rank_is v in_v in
      record {
        still = λ l. still (omega arith);
        moves = λ l.
            let m = moves (omega arith) in
            record {
              forward = m.0;
              reached = forward_rank links v u m.0 in_u m.1;
              order = m.2 ∙ ap (λ (a : ℕ). moved m.0 a (rank u) o) ev ∙ ap (λ (b : ℕ). moved m.0 (rank_in o v) b o) eu;
            };
      }

  pub report_rank : {V P : Type 0} (h : Ledger V P) (e : ℕ) (old new : ℕ → V) (ps : List ℕ) → ((p : ℕ) → Has ps p → p < length o) → IsReport h e old new rank ps → IsReport h e old new (rank_in o) ps
  report_rank h e old new ps low x =
      record {
        those = x.those;
        rising = λ i j l m.
            let a = rank_is (get_or ps i 0) (low _ (has_get_or ps i 0 (omega arith))) in
            let b = rank_is (get_or ps j 0) (low _ (has_get_or ps j 0 (omega arith))) in
            let c = x.rising i j l m in
            omega arith;
      }

  -- what a walk by the table says, said by the order
  pub recomputed_rank : {V P : Type 0} (k : Kind V P) (h : Ledger V P) (e : ℕ) (old new : ℕ → V) (ps : List ℕ) (counts : ℕ × ℕ) → ((p : ℕ) → Has ps p → p < length o) →
      Recomputed k h rank e old new ps counts → Recomputed k h (rank_in o) e old new ps counts
  recomputed_rank k h e old new ps counts low x =
      record { balanced = x.balanced; joins = x.joins; report = report_rank h e old new ps low x.report; first = x.first; second = x.second }
