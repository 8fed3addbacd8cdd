-- What moving ranks does to each place. Assumes nothing.
use Rattle.std.proofs.Common.{◌≡◌, ℕ, ◌+◌, ◌-◌, ◌<◌, ◌≤◌, Bool, true, false, List, ◌++◌, length, get_or, take, drop, sym, ap, ◌∙◌, subst, ⊎_elim, arith, length-drop, length-take, get_or-drop, get_or-take}
use Rattle.std.specs.List.{ContainsAt as Has}
use Rattle.std.proofs.lemmas.Bool.{cases_lt}
use Rattle.std.proofs.lemmas.List.{get_or_append_left, get_or-append_right}
use Rattle.paths.specs.Order.{Ranked, Before, shared_out, moved}
use Rattle.paths.specs.Ranks.{Between, Moved}
use Rattle.paths.proofs.Walks.{has_shared, length_shared, before_moved, before_turned, rank_before, before_rank}
use Rattle.paths.proofs.Moves.{span, parts, rank_span}
use Rattle.paths.proofs.Permutes.{length_moved}

module _ (rank new : ℕ → ℕ) (order : List ℕ) (r : Ranked rank order) (marked : ℕ → Bool) (v u : ℕ) (in_v : v < length order) (in_u : u < length order) (turn : rank v ≤ rank u)
    (s : Ranked new (moved marked (rank v) (rank u) order)) (out : (p : ℕ) → length order ≤ p → (length order ≤ rank p) × (new p ≡ rank p)) where
  front : List ℕ
  front = take (rank v) order

  walk : List ℕ
  walk = span (rank v) (rank u + 1 - rank v) order

  back : List ℕ
  back = drop (rank u + 1) order

  -- the new rank of p is where p stands in the moved order
  stands_at : (p i : ℕ) → i < length order → get_or (moved marked (rank v) (rank u) order) i 0 ≡ p → new p ≡ i
  stands_at p i l e = let same = length_moved rank order r marked (rank v) (rank u) turn in ap new (sym e) ∙ s.at i (omega arith)

  front_size : length front ≡ rank v
  unfolding front
  front_size = let h = r.held v in_v in let e = length-take (rank v) order in omega arith

  walk_size : length walk ≡ rank u + 1 - rank v
  unfolding walk
  walk_size = let h = r.held u in_u in let e = length-take (rank u + 1 - rank v) (drop (rank v) order) in let f = length-drop (rank v) order in omega arith

  place_in : (p : ℕ) → rank p ≤ rank u → p < length order
  place_in p l = ⊎_elim {C = p < length order} (λ i. i) (λ ge. let o = (out p ge).0 in let h = (r.held u in_u).0 in absurd (omega arith)) (cases_lt p (length order))

  below : (p : ℕ) → rank p < rank v → new p ≡ rank p
  unfolding front walk back
  below p l =
      let in' = place_in p (omega arith) in
      let h = r.held p in' in
      let size = front_size in
      stands_at p (rank p) h.0 (get_or_append_left front (shared_out marked walk ++ back) 0 (rank p) (omega arith) ∙ get_or-take (rank v) order (rank p) 0 l ∙ h.1)

  above : (p : ℕ) → rank u < rank p → new p ≡ rank p
  unfolding front walk back
  above p l = ⊎_elim {C = new p ≡ rank p} inner (λ ge. (out p ge).1) (cases_lt p (length order))
    where
      inner : p < length order → new p ≡ rank p
      inner in' =
          let h = r.held p in' in
          let size : length (shared_out marked walk) ≡ rank u + 1 - rank v = length_shared marked walk ∙ walk_size in
          let first = get_or-append_right front (shared_out marked walk ++ back) (rank v) (rank p) 0 front_size (omega arith) in
          let second = get_or-append_right (shared_out marked walk) back (rank u + 1 - rank v) (rank p - rank v) 0 size (omega arith) in
          let third = get_or-drop (rank u + 1) order (rank p - rank v - (rank u + 1 - rank v)) 0 in
          let same : rank u + 1 + (rank p - rank v - (rank u + 1 - rank v)) ≡ rank p = omega arith in
          stands_at p (rank p) h.0 (first ∙ second ∙ third ∙ ap (λ i. get_or order i 0) same ∙ h.1)

  walked : (p : ℕ) → Between rank v u p → Has walk p
  unfolding walk
  walked p b = rank_span rank order r (rank v) (rank u + 1 - rank v) p (place_in p b.high) b.low (let h = b.high in omega arith)

  -- a place of the window has one of its ranks again
  window : (p : ℕ) → Between rank v u p → (rank v ≤ new p) × (new p ≤ rank u)
  unfolding front walk back
  window p b =
      let h = has_shared marked walk p (walked p b) in
      let size : length (shared_out marked walk) ≡ rank u + 1 - rank v = length_shared marked walk ∙ walk_size in
      let top = (r.held u in_u).0 in
      let first = get_or-append_right front (shared_out marked walk ++ back) (rank v) (rank v + h.0) 0 front_size (omega arith) in
      let same : rank v + h.0 - rank v ≡ h.0 = omega arith in
      let second = get_or_append_left (shared_out marked walk) back 0 h.0 h.1 in
      let e = stands_at p (rank v + h.0) (omega arith) (first ∙ ap (λ i. get_or (shared_out marked walk ++ back) i 0) same ∙ second ∙ h.2 0) in
      omega arith

  ordered : (p q : ℕ) → Between rank v u p → Between rank v u q → marked p ≡ marked q → rank p < rank q → new p < new q
  unfolding front walk back
  ordered p q a b same l =
      let old : Before order p q = before_rank rank order r p q (place_in p a.high) (place_in q b.high) l in
      let cut = subst (λ o. Before o p q) (parts order (rank v) (rank u + 1) (omega arith)) old in
      rank_before new _ s p q (before_moved marked front walk back p q (λ e h. sym same ∙ e) cut)

  apart : (p q : ℕ) → Between rank v u p → Between rank v u q → marked p ≡ false → marked q ≡ true → new p < new q
  unfolding front walk back
  apart p q a b e f = rank_before new _ s p q (before_turned marked front walk back p q (walked p a) (walked q b) e f)

  pub moved_by_rule : Moved rank new v u marked
  moved_by_rule = record { below = below; above = above; low = λ p b. (window p b).0; high = λ p b. (window p b).1; order = ordered; apart = apart }
