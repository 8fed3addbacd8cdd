-- An order of the places gives each its rank, and a new link that closes no circle keeps it so. Assumes nothing.
use Rattle.std.proofs.Common.{◌≡◌, ℕ, ◌<◌, ◌≤◌, Bool, false, List, length, sym, refl, subst, ⊎_elim, le_refl, arith}
use Rattle.std.specs.List.{ContainsAt as Has}
use Rattle.std.proofs.ByRecursion.{has_get_or}
use Rattle.std.proofs.lemmas.Bool.{cases_lt, cases_Bool}
use Rattle.paths.specs.Ledger.{Link, Inside, Path}
use Rattle.paths.specs.Equations.{Topological}
use Rattle.paths.specs.Order.{Ranked, upto, rank_in, moved}
use Rattle.paths.proofs.Forward.{forward_marks}
use Rattle.paths.proofs.Moves.{moved_rises, turned_rises}
use Rattle.paths.proofs.Walks.{rank_before}
use Rattle.paths.proofs.Permutes.{first_ranked, ranked_in, moved_ranked}
use Rattle.law.specs.Ranks.{Reordered, LinkMoves}

-- each of the first places stands in the order once
abbrev pub Whole : List ℕ → Type 0
Whole o = Ranked (rank_in o) o

pub whole_from : (rank : ℕ → ℕ) (o : List ℕ) → Ranked rank o → Whole o
whole_from rank o r =
    ranked_in o (λ p b. let l = rank_before rank o r p p b in omega arith) (λ p l. let h = r.held p l in subst (Has o) h.1 (has_get_or o (rank p) 0 h.0))

pub upto_whole : (n : ℕ) → Whole (upto n)
upto_whole n = whole_from (λ p. p) (upto n) (first_ranked n)

pub whole_moved : (marked : ℕ → Bool) (o : List ℕ) (low high : ℕ) → low ≤ high → Whole o → Whole (moved marked low high o)
whole_moved marked o low high le w =
    let m = (moved_ranked (rank_in o) o w marked low high le).1 in whole_from m.0 (moved marked low high o) m.1

module _ {P : Type 0} (links : List (Link P)) (o : List ℕ) (w : Whole o) (up : Topological (rank_in o) links) (inside : Inside (length o) links) (u v : ℕ) (in_u : u < length o) (in_v : v < length o) where
  -- the order after a new link from u to v
  pub record Grown (n : List ℕ) : Type 0 where
    pub long : length n ≡ length o
    pub whole : Whole n
    pub rises : Topological (rank_in n) links
    pub turned : rank_in n u < rank_in n v

  pub grown : (Path links v u → ⊥) → (n : List ℕ) → LinkMoves links u v o n → Grown n
  grown clear n mv = ⊎_elim {C = Grown n} low (λ turn. high turn (mv.moves turn)) (cases_lt (rank_in o u) (rank_in o v))
    where
      low : rank_in o u < rank_in o v → Grown n
      low l = subst Grown (sym (mv.still l)) (record { long = refl; whole = w; rises = up; turned = l })

      high : rank_in o v ≤ rank_in o u → Reordered links u v o n → Grown n
      high turn r =
          let marks = forward_marks links (rank_in o) up v u turn r.forward r.reached in
          let whole = whole_moved r.forward o (rank_in o v) (rank_in o u) turn w in
          let out : r.forward u ≡ false = ⊎_elim {C = r.forward u ≡ false} (λ e. absurd (clear ((r.reached u (le_refl (rank_in o u))).0 e))) (λ e. e) (cases_Bool (r.forward u)) in
          subst Grown (sym r.order)
          (record {
            long = (moved_ranked (rank_in o) o w r.forward (rank_in o v) (rank_in o u) turn).0;
            whole = whole;
            rises = moved_rises (rank_in o) o w links up inside r.forward v u marks turn _ whole;
            turned = turned_rises (rank_in o) o w links up inside r.forward v u marks turn _ whole in_v in_u out;
          })
