-- What the links of a thread from a slot on are. Assumes nothing.
use Rattle.std.proofs.Common.{◌≡◌, ℕ, zero, suc, ◌+◌, ◌<◌, ◌≤◌, ◌↔◌, List, [], ◌∷◌, length, get_or, Some, None, Option, sym, refl, ap, ◌∙◌, subst, ⊎_elim, arith}
use Rattle.std.specs.List.{ContainsAt as Has}
use Rattle.std.specs.Iterator.{MakesProgress, item_count}
use Rattle.std.proofs.lemmas.Bool.{cases_lt}
use Rattle.paths.proofs.Lists.{has_none, has_first, has_later, has_cases}
use Rattle.links.specs.declared.row.Link.{Link}
use Rattle.links.specs.declared.row.LinkRow.{LinkRow}
use Rattle.links.specs.declared.row.Heads.{Heads}
use Rattle.links.specs.declared.row.Side.{Side}
use Rattle.links.specs.declared.row.Side.TheVariants.{Leaving, Entering}
use Rattle.links.specs.Threads.{Least}
use Rattle.links.specs.Table.{at, key, next, view, link_at, linked, links, end_of, key_of, Sound, Climbing, above, head_of, no_heads}
use Rattle.links.specs.LinksAt.{Rising, LinksOf, then, onward}
use Rattle.links.proofs.Cursors.{end_by, key_by, sorted_of}
use Rattle.links.proofs.Held.{none_some, live_link, link_live}
use Rattle.links.proofs.Haves.{slot_having, of_slot}
use Rattle.links.proofs.Ends.{one_link, inside}
use Rattle.links.proofs.Owns.{bounded}

key_inside : {R : Type 0} (side : Side) (l : Link R) (n : ℕ) → (l.source.0 < n) × (l.target.0 < n) → key_of side l < n
key_inside Leaving l n i = i.1
key_inside Entering l n i = i.0

same_ends : {R : Type 0} (side : Side) (l m : Link R) → end_of side l ≡ end_of side m → key_of side l ≡ key_of side m → (l.source.0 ≡ m.source.0) × (l.target.0 ≡ m.target.0)
same_ends Leaving l m e k = (e, k)
same_ends Entering l m e k = (k, e)

-- an item of a list that the state shows brings the end nearer
pub progress : {S A : Type 0} (shown : S → List A) (can : S → Type 0) (s : S) (x : A) (t : S) → can t → shown s ≡ x ∷ shown t → MakesProgress can (item_count shown) s (Some x) t
progress shown can s x t may e = record { on = λ _. (may, tt, omega (arith, ap length e)); keeps = may; rests = λ _. tt }

-- ys are the links at p whose other end is b or more
record From {R : Type 0} (side : Side) (xs : List (Link R)) (p b : ℕ) (ys : List (Link R)) : Type 0 where
  members : (m : Link R) → Has ys m ↔ (Has xs m × (end_of side m ≡ p) × (b ≤ key_of side m))
  rising : Rising side ys

-- the other end of a row is below that number
at_above : {R : Type 0} (side : Side) (rows : List (LinkRow R)) (k : ℕ) → k < length rows → key side (at rows k) < above side rows
at_above side [] k l = absurd (omega arith)
at_above side (x ∷ rows) zero l = omega arith
at_above side (x ∷ rows) (suc k) l = let r = at_above side rows k (omega arith) in omega arith

-- in a table in order each link goes on to a greater other end
pub climbing_of : {R : Type 0} (side : Side) (rows : List (LinkRow R)) (heads : List Heads) (count free : ℕ) → Sound rows heads count free → Climbing side rows
climbing_of side rows heads count free so s d e =
    let h = ((sorted_of side rows heads count free so).later s d).here (bounded side rows heads (next side (at rows s)) e) in
    omega (arith, h.2)

module _ {R : Type 0} (side : Side) (rows : List (LinkRow R)) where
  key_at : (s : ℕ) (l : Link R) → link_at rows s ≡ Some l → (key side (at rows s) ≡ key_of side l) × (key_of side l < above side rows)
  key_at s l e =
      let w = link_live rows s l e in
      let k = sym (key_by side l (at rows s) (sym w.2) (sym w.3)) in
      let a = at_above side rows s w.0 in
      (k, omega (arith, a, k))

  pub stop : (f s : ℕ) → link_at rows s ≡ None → onward side rows f s ≡ []
  stop zero s e = refl
  stop (suc f) s e = ap (λ o. then o (onward side rows f (next side (at rows s)))) e

  module _ (climbing : Climbing side rows) where
    climbs : (s : ℕ) (l m : Link R) → link_at rows s ≡ Some l → link_at rows (next side (at rows s)) ≡ Some m → key_of side l < key_of side m
    climbs s l m e f =
        let w = link_live rows s l e in
        let v = link_live rows (next side (at rows s)) m f in
        omega (arith, climbing s w.1 v.1, (key_at s l e).0, (key_at (next side (at rows s)) m f).0)

    module _ (top : ℕ) (low : (s : ℕ) (l : Link R) → link_at rows s ≡ Some l → key_of side l < top) where
      -- no more links come than there are numbers below one that is above their other ends
      enough : (f g s : ℕ) → ((l : Link R) → link_at rows s ≡ Some l → top ≤ f + key_of side l) → ((l : Link R) → link_at rows s ≡ Some l → top ≤ g + key_of side l) →
          onward side rows f s ≡ onward side rows g s
      enough zero zero s a b = refl
      enough zero (suc g) s a b = go (link_at rows s) refl
        where
          go : (o : Option (Link R)) → link_at rows s ≡ o → [] ≡ onward side rows (suc g) s
          go None e = sym (stop (suc g) s e)
          go (Some l) e = let k = (low s l e) in let i = a l e in absurd (omega arith)
      enough (suc f) zero s a b = go (link_at rows s) refl
        where
          go : (o : Option (Link R)) → link_at rows s ≡ o → onward side rows (suc f) s ≡ []
          go None e = stop (suc f) s e
          go (Some l) e = let k = (low s l e) in let i = b l e in absurd (omega arith)
      enough (suc f) (suc g) s a b = go (link_at rows s) refl (enough f g (next side (at rows s)))
        where
          s' : ℕ
          s' = next side (at rows s)

          go : (o : Option (Link R)) → link_at rows s ≡ o →
              (((m : Link R) → link_at rows s' ≡ Some m → top ≤ f + key_of side m) → ((m : Link R) → link_at rows s' ≡ Some m → top ≤ g + key_of side m) → onward side rows f s' ≡ onward side rows g s') →
              onward side rows (suc f) s ≡ onward side rows (suc g) s
          go None e more = stop (suc f) s e ∙ sym (stop (suc g) s e)
          go (Some l) e more =
              ap (then (link_at rows s)) (more (λ m q. let i = a l e in let c = climbs s l m e q in omega arith) (λ m q. let i = b l e in let c = climbs s l m e q in omega arith))

      -- a link comes, and then those from the next slot on
      step_to : (n s : ℕ) (l : Link R) → top ≤ n → link_at rows s ≡ Some l → onward side rows n s ≡ l ∷ onward side rows n (next side (at rows s))
      step_to n s l le e = enough n (suc n) s (λ m q. omega arith) (λ m q. omega arith) ∙ ap (λ o. then o (onward side rows n (next side (at rows s)))) e

    -- so too up to the number above all other ends
    pub step_on : (s : ℕ) (l : Link R) → link_at rows s ≡ Some l → onward side rows (above side rows) s ≡ l ∷ onward side rows (above side rows) (next side (at rows s))
    step_on s l e = step_to (above side rows) (λ k m f. (key_at k m f).1) (above side rows) s l (omega arith) e

module _ {R : Type 0} (side : Side) (rows : List (LinkRow R)) (heads : List Heads) (count free : ℕ) (so : Sound rows heads count free) where
  -- at the end no link is left
  none_left : (p b s : ℕ) → Least (view side rows heads) p b s → link_at rows s ≡ None → (m : Link R) → Has (links rows) m → end_of side m ≡ p → b ≤ key_of side m → ⊥
  none_left p b s least e m h em bm =
      let r = slot_having (linked rows) m h in
      let w = link_live rows r.0 m r.1 in
      let i = (least.least r.0 w.1 (sym (end_by side m (at rows r.0) (sym w.2) (sym w.3)) ∙ em) (omega (arith, (key_at side rows r.0 m r.1).0))).0 in
      let l = live_link rows s i (least.here i).0 in
      none_some l.0 (sym e ∙ l.1)

  from : (f p b s : ℕ) → above side rows ≤ f + b → Least (view side rows heads) p b s → From side (links rows) p b (onward side rows f s)
  from zero p b s le least = record {
    members = λ m. (λ h. absurd (has_none m h), λ h. let r = slot_having (linked rows) m h.0 in absurd (omega (arith, h.2, (key_at side rows r.0 m r.1).1)));
    rising = tt;
  }
  from (suc f) p b s le least = go (link_at rows s) refl (λ c. from f p c (next side (at rows s)))
    where
      s' : ℕ
      s' = next side (at rows s)

      go : (o : Option (Link R)) → link_at rows s ≡ o → ((c : ℕ) → above side rows ≤ f + c → Least (view side rows heads) p c s' → From side (links rows) p c (onward side rows f s')) →
          From side (links rows) p b (onward side rows (suc f) s)
      go None e later =
          subst (From side (links rows) p b) (sym (stop side rows (suc f) s e))
          (record { members = λ m. (λ h. absurd (has_none m h), λ h. absurd (none_left p b s least e m h.0 h.1 h.2)); rising = tt })
      go (Some l) e later =
          let w = link_live rows s l e in
          let here = least.here w.0 in
          let k = (key_at side rows s l e).0 in
          let has = of_slot (linked rows) l s e in
          let end : end_of side l ≡ p = end_by side l (at rows s) (sym w.2) (sym w.3) ∙ here.1 in
          let next_one : Least (view side rows heads) p (suc (key_of side l)) s' =
          subst (λ c. Least (view side rows heads) p (suc c) s') k (subst (λ q. Least (view side rows heads) q (suc (key side (at rows s))) s') here.1 ((sorted_of side rows heads count free so).later s w.1)) in
          let more = later (suc (key_of side l)) (omega (arith, here.2)) next_one in
          subst (From side (links rows) p b) (sym (ap (λ o. then o (onward side rows f s')) e))
          (record {
            members = λ m. (
              λ h. ⊎_elim {C = Has (links rows) m × (end_of side m ≡ p) × (b ≤ key_of side m)}
                  (λ q. (subst (Has (links rows)) q has, ap (end_of side) (sym q) ∙ end, let y = ap (key_of side) q in omega (arith, here.2)))
                  (λ i. let r = (more.members m).0 i in (r.0, r.1, omega (arith, r.2, here.2)))
                  (has_cases (onward side rows f s') l m h),
              λ h. ⊎_elim {C = Has (l ∷ onward side rows f s') m}
                  (λ lt. has_later (onward side rows f s') l m ((more.members m).1 (h.0, h.1, omega arith)))
                  (λ ge.
                  let r = slot_having (linked rows) m h.0 in
                  let v = link_live rows r.0 m r.1 in
                  let o = least.least r.0 v.1 (sym (end_by side m (at rows r.0) (sym v.2) (sym v.3)) ∙ h.1) (omega (arith, (key_at side rows r.0 m r.1).0, h.2)) in
                  let ends = same_ends side l m (end ∙ sym h.1) (omega (arith, o.1, (key_at side rows r.0 m r.1).0)) in
                  subst (Has (l ∷ onward side rows f s')) (one_link rows heads count free so l m has h.0 ends.0 ends.1) (has_first (onward side rows f s') l))
                  (cases_lt (key_of side l) (key_of side m)),
            );
            rising = (λ m h. ((more.members m).0 h).2, more.rising);
          })

  -- every link there, from the head of the thread on, up to the number above all other ends
  pub all_above : (n p : ℕ) → n ≡ length heads → p < length heads → LinksOf side (links rows) n p (onward side rows (above side rows) (head_of side (get_or heads p no_heads)))
  all_above n p e l =
      let all = from (above side rows) p 0 (head_of side (get_or heads p no_heads)) (omega arith) ((sorted_of side rows heads count free so).first p l) in
      record {
        members = λ m. (λ h. let r = (all.members m).0 h in (r.0, r.1), λ h. (all.members m).1 (h.0, h.1, omega arith));
        rising = all.rising;
        inside = λ m h. let i = inside rows heads count free so m ((all.members m).0 h).0 in (omega (arith, i.0), omega (arith, i.1));
      }

  -- the other ends are places
  low_of : (s : ℕ) (l : Link R) → link_at rows s ≡ Some l → key_of side l < length heads
  low_of s l e = key_inside side l (length heads) (inside rows heads count free so l (of_slot (linked rows) l s e))

  -- a link comes, and then those from the next slot on, up to the number of places or more
  pub step : (n s : ℕ) (l : Link R) → length heads ≤ n → link_at rows s ≡ Some l → onward side rows n s ≡ l ∷ onward side rows n (next side (at rows s))
  step n s l le e = step_to side rows (climbing_of side rows heads count free so) (length heads) low_of n s l le e

  -- to the number of places, or to the number above all other ends, the same links come
  pub same_to : (s : ℕ) → onward side rows (above side rows) s ≡ onward side rows (length heads) s
  same_to s =
      let c = climbing_of side rows heads count free so in
      let n = above side rows in
      let m = length heads in
      enough side rows c n (λ k l e. (key_at side rows k l e).1) n (n + m) s (λ l q. omega arith) (λ l q. omega arith) ∙
      sym (enough side rows c m low_of m (n + m) s (λ l q. omega arith) (λ l q. omega arith))

  -- every link there, up to the number of places
  pub all_links : (n p : ℕ) → n ≡ length heads → p < length heads → LinksOf side (links rows) n p (onward side rows n (head_of side (get_or heads p no_heads)))
  all_links n p e l =
      let s = head_of side (get_or heads p no_heads) in
      subst (λ k. LinksOf side (links rows) n p (onward side rows k s)) (sym e)
      (subst (LinksOf side (links rows) n p) (same_to s) (all_above n p e l))
