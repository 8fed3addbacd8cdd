-- The step of a walk up the ranks. Assumes nothing.
use Rattle.std.proofs.Common.{◌≡◌, ℕ, ◌+◌, ◌<◌, ◌≤◌, true, false, eqb, ◌≢◌, ◌⊎◌, ◌↔◌, List, map, length, get_or, take, set, sym, refl, ap, ◌∙◌, subst, inl, inr, ⊎_elim, arith, length-take, get_or-set_other, get_or-set_same, ne_eqb}
use lib.ListN.{length-map}
use borrow.Author.Tests.{both_ways}
use Rattle.std.proofs.lemmas.List.{get_or-map, get_or_past}
use Rattle.std.proofs.lemmas.Bool.{cases_eq, cases_lt, cases_Bool}
use Rattle.paths.specs.Ledger.{Leads, Path, at, over}
use Rattle.paths.specs.Ledger.{Link as Arrow}
use Rattle.paths.specs.Equations.{Topological}
use Rattle.paths.specs.Search.{Met, Marks}
use Rattle.paths.proofs.Search.{path_rises}
use Rattle.common.specs.declared.number.PlaceNumber.{PlaceNumber}
use Rattle.common.specs.declared.number.Rank.{Rank}
use Rattle.links.specs.declared.row.Link.{Link}
use Rattle.order.specs.Tables.{rank_in, place_in, order_in, marked_in, Inside, Entered, Sound}
use Rattle.order.specs.Marks.{Clean, Beyond}
use Rattle.order.specs.Forward.{Reached}
use Rattle.order.proofs.Deals.{order_at}
use Rattle.order.proofs.Bytes.{marked_is, is_marked_lem}

pub place_at : (places : List PlaceNumber) (r : ℕ) (d : PlaceNumber) → r < length places → place_in places r ≡ (get_or places r d).0
place_at places r d h = get_or-map (λ (p : PlaceNumber). p.0) places r d 0 h

pub order_length : (n : ℕ) (places : List PlaceNumber) → n ≤ length places → length (order_in n places) ≡ n
order_length n places h =
    let a : length (map (λ (p : PlaceNumber). p.0) places) ≡ length places = length-map places (λ (p : PlaceNumber). p.0) in
    let b = length-take n (map (λ (p : PlaceNumber). p.0) places) in
    omega arith

pub rank_at_lem : (ranks : List Rank) (p : ℕ) (d : Rank) → p < length ranks → rank_in ranks p ≡ (get_or ranks p d).0
rank_at_lem ranks p d h = get_or-map (λ (r : Rank). r.0) ranks p d 0 h

-- every rank is below n, and a place that has one is the one that stands there
pub sound_rank : {P : Type 0} (n : ℕ) (ranks : List Rank) (places : List PlaceNumber) (links : List (Link P)) → Sound n ranks places links → (p : ℕ) → p < n → rank_in ranks p < n
sound_rank n ranks places links s p h = let e = order_length n places s.wide in let a = (s.ranked.held p (omega arith)).0 in omega arith

pub sound_at : {P : Type 0} (n : ℕ) (ranks : List Rank) (places : List PlaceNumber) (links : List (Link P)) → Sound n ranks places links → (r : ℕ) → r < n →
    rank_in ranks (get_or (order_in n places) r 0) ≡ r
sound_at n ranks places links s r h = let e = order_length n places s.wide in s.ranked.at r (omega arith)

pub sound_one : {P : Type 0} (n : ℕ) (ranks : List Rank) (places : List PlaceNumber) (links : List (Link P)) → Sound n ranks places links → (r q : ℕ) → q < n → rank_in ranks q ≡ r →
    q ≡ get_or (order_in n places) r 0
sound_one n ranks places links s r q h k = let e = order_length n places s.wide in sym (s.ranked.held q (omega arith)).1 ∙ ap (λ (i : ℕ). get_or (order_in n places) i 0) k

-- what is known of the place p that a walk meets at the rank r
pub record Here (n : ℕ) (rank : ℕ → ℕ) (r p : ℕ) : Type 0 where
  pub low : p < n
  pub rank_is : rank p ≡ r
  pub one : (q : ℕ) → q < n → rank q ≡ r → q ≡ p

pub sound_here : {P : Type 0} (n : ℕ) (ranks : List Rank) (places : List PlaceNumber) (links : List (Link P)) → Sound n ranks places links → (r p : ℕ) → r < n →
    p ≡ get_or (order_in n places) r 0 → Here n (rank_in ranks) r p
sound_here n ranks places links s r p h e =
    record {
      low = subst (λ (x : ℕ). x < n) (sym e) (s.below r h);
      rank_is = ap (rank_in ranks) e ∙ sound_at n ranks places links s r h;
      one = λ q l k. sound_one n ranks places links s r q l k ∙ sym e;
    }

-- the same of a rank that is at most u's
pub here_at : {R : Type 0} (n : ℕ) (ranks : List Rank) (places : List PlaceNumber) (links : List (Link R)) → Sound n ranks places links → (u : ℕ) → u < n → (r p : ℕ) → r ≤ rank_in ranks u → p ≡ place_in places r → Here n (rank_in ranks) r p
here_at n ranks places links s u h r p le e =
    let a = sound_rank n ranks places links s u h in
    let in' : r < n = omega arith in
    sound_here n ranks places links s r p in' (e ∙ sym (order_at n places r in'))

unmarked : (n : ℕ) (marks : List ℕ) → Clean n marks → (p : ℕ) → p < n → marked_in n marks p ≡ false
unmarked n marks clean p h = marked_is n marks p h ∙ ne_eqb _ 1 (λ e. let z = clean p h in omega arith)

past : (n : ℕ) (marks : List ℕ) (p : ℕ) → n ≤ p → marked_in n marks p ≡ false
past n marks p h = ap (λ (x : ℕ). eqb x 1) (get_or_past (take n marks) p 0 (let a = length-take n marks in omega arith))

module _ {P : Type 0} (links : List (Arrow P)) (rank : ℕ → ℕ) (up : Topological rank links) where
  pub walked_none : (n v : ℕ) (marks : List ℕ) → Clean n marks → Reached links rank n v (rank v) (marked_in n marks)
  walked_none n v marks clean =
      record {
        met = λ p h l. (λ e. absurd (both_ways _ (unmarked n marks clean p h) e), λ π. let a = path_rises links rank up π in absurd (omega arith));
        ahead = λ p h l. unmarked n marks clean p h;
      }

  module _ (n v r : ℕ) (marks : List ℕ) (w : Reached links rank n v r (marked_in n marks)) (inside : Inside n links) (p : ℕ) (top : rank p ≤ r) where
    -- what leads to p comes from below, where the marks are set
    pub path_to : (p ≡ v) ⊎ Entered links (marked_in n marks) p → Path links v p
    path_to (inl e) = rw e at
    path_to (inr (q, t, m, e)) = let a = up q p t m in over ((w.met q (inside q p t m).0 (omega arith)).0 e) t m

    pub path_from : Path links v p → (p ≡ v) ⊎ Entered links (marked_in n marks) p
    path_from π = go π refl
      where
        go : {q : ℕ} → Path links v q → q ≡ p → (p ≡ v) ⊎ Entered links (marked_in n marks) p
        go at e = inl (sym e)
        go (over {p = q} π t m) e =
            let m' : Leads links q p t = subst (λ (x : ℕ). Leads links q x t) e m in
            let a = up q p t m' in
            inr (q, t, m', (w.met q (inside q p t m').0 (omega arith)).1 π)

  module _ (n v r : ℕ) (marks : List ℕ) (w : Reached links rank n v r (marked_in n marks)) (p : ℕ) (h : Here n rank r p) where
    pub walked_skip : (Path links v p → ⊥) → Reached links rank n v (r + 1) (marked_in n marks)
    walked_skip none =
        record {
          met = λ q l k. ⊎_elim {C = (marked_in n marks q ≡ true) ↔ Path links v q}
              (λ e. (λ m. absurd (both_ways _ (w.ahead q l (let f = ap rank e ∙ h.rank_is in omega arith)) m), λ π. absurd (none (subst (Path links v) e π))))
              (λ ne. w.met q l (let f : rank q ≢ r = λ f. ne (h.one q l f) in omega arith))
              (cases_eq q p);
          ahead = λ q l k. w.ahead q l (omega arith);
        }

    pub walked_set : n ≤ length marks → Path links v p → Reached links rank n v (r + 1) (marked_in n (set marks p 1))
    walked_set len π' =
        record {
          met = λ q l k. ⊎_elim {C = (marked_in n (set marks p 1) q ≡ true) ↔ Path links v q}
              (λ e. (λ m. subst (Path links v) (sym e) π', λ π. subst (λ (x : ℕ). marked_in n (set marks p 1) x ≡ true) (sym e) here_set))
              (λ ne. let o = other q l ne in let m = w.met q l (let f : rank q ≢ r = λ f. ne (h.one q l f) in omega arith) in (λ e. m.0 (sym o ∙ e), λ π. o ∙ m.1 π))
              (cases_eq q p);
          ahead = λ q l k. other q l (λ e. let f = ap rank e ∙ h.rank_is in omega arith) ∙ w.ahead q l (omega arith);
        }
      where
        here_set : marked_in n (set marks p 1) p ≡ true
        here_set = let b = h.low in is_marked_lem n (set marks p 1) p h.low (get_or-set_same marks p 1 0 (omega arith))

        other : (q : ℕ) → q < n → (q ≡ p → ⊥) → marked_in n (set marks p 1) q ≡ marked_in n marks q
        other q l ne = marked_is n (set marks p 1) q l ∙ ap (λ (x : ℕ). eqb x 1) (get_or-set_other marks p q 1 0 ne) ∙ sym (marked_is n marks q l)

    pub beyond_set : (xs : List ℕ) → Beyond n xs marks → Beyond n xs (set marks p 1)
    beyond_set xs b k l = get_or-set_other marks p k 1 0 (λ e. let a = h.low in omega arith) ∙ b k l

  -- the marks of a whole walk are those that the theory speaks of
  pub walked_marks : (n u v : ℕ) (marks : List ℕ) → Reached links rank n v (rank u + 1) (marked_in n marks) → Inside n links → v < n → Marks links rank v u (marked_in n marks)
  walked_marks n u v marks w inside in' =
      record {
        below = λ p l. ⊎_elim {C = marked_in n marks p ≡ false} (λ k. low p k l) (λ k. past n marks p k) (cases_lt p n);
        within = λ p l k. ⊎_elim {C = (marked_in n marks p ≡ true) ↔ Met links v (marked_in n marks) p} (λ i. near p i k) (λ i. far p i) (cases_lt p n);
      }
    where
      low : (p : ℕ) → p < n → rank p < rank v → marked_in n marks p ≡ false
      low p k l =
          ⊎_elim {C = marked_in n marks p ≡ false}
          (λ e. ⊎_elim {C = marked_in n marks p ≡ false} (λ i. let a = path_rises links rank up ((w.met p k i).0 e) in absurd (omega arith)) (λ i. w.ahead p k i) (cases_lt (rank p) (rank u + 1)))
          (λ e. e)
          (cases_Bool (marked_in n marks p))

      near : (p : ℕ) → p < n → rank p ≤ rank u → (marked_in n marks p ≡ true) ↔ Met links v (marked_in n marks) p
      near p i k =
          let m = w.met p i (omega arith) in
          (λ e. path_from n v (rank u + 1) marks w inside p (omega arith) (m.0 e), λ e. m.1 (path_to n v (rank u + 1) marks w inside p (omega arith) e))

      far : (p : ℕ) → n ≤ p → (marked_in n marks p ≡ true) ↔ Met links v (marked_in n marks) p
      far p i = (λ e. absurd (both_ways _ (past n marks p i) e), λ e. absurd (⊎_elim {C = ⊥} (λ f. omega arith) (λ m. let b = (inside m.0 p m.1 m.2).1 in omega arith) e))

-- the entry of the place table at the rank r is the place that has it
pub order_here : (n : ℕ) (places : List PlaceNumber) (r : ℕ) → r < n → n ≤ length places → (get_or places r (record { 0 = 0 })).0 ≡ get_or (order_in n places) r 0
order_here n places r h wide = sym (place_at places r (record { 0 = 0 }) (omega arith)) ∙ sym (order_at n places r h)
