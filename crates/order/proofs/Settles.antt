-- Places that change places until each stands at its rank. Assumes nothing.
use Rattle.std.proofs.Common.{◌≡◌, ℕ, zero, suc, ◌+◌, ◌<◌, ◌≤◌, Bool, true, false, cond, eqb, ◌≢◌, List, length, get_or, set, sym, refl, ap, ◌∙◌, subst, ⊎_elim, arith, length-set, eq-eqb, ne_eqb}
use Rattle.std.specs.List.{SwappedAt}
use Rattle.std.proofs.lemmas.Bool.{cases_eq}
use Rattle.common.specs.declared.number.PlaceNumber.{PlaceNumber}
use Rattle.common.specs.declared.number.Rank.{Rank}
use Rattle.order.specs.Tables.{rank_in, place_in}
use Rattle.order.specs.Sharing.{Shuffled, Settled}
use Rattle.order.proofs.Deals.{place_put, place_kept}
use Rattle.order.proofs.Ways.{place_at, rank_at_lem}

-- r and t change places
abbrev swapped : ℕ → ℕ → ℕ → ℕ
swapped r t i = cond (eqb i r) t (cond (eqb i t) r i)

swapped_first : (r t : ℕ) → swapped r t r ≡ t
swapped_first r t = ap (λ (b : Bool). cond b t (cond (eqb r t) r r)) (eq-eqb r r refl)

swapped_second : (r t : ℕ) → t ≢ r → swapped r t t ≡ r
swapped_second r t ne = ap (λ (b : Bool). cond b t (cond (eqb t t) r t)) (ne_eqb t r ne) ∙ ap (λ (b : Bool). cond b r t) (eq-eqb t t refl)

swapped_other : (r t i : ℕ) → i ≢ r → i ≢ t → swapped r t i ≡ i
swapped_other r t i a b = ap (λ (c : Bool). cond c t (cond (eqb i t) r i)) (ne_eqb i r a) ∙ ap (λ (c : Bool). cond c r i) (ne_eqb i t b)

-- what holds of r, of t and of every other holds of all
by_three : (P : ℕ → Type 0) (r t : ℕ) → P r → P t → ((i : ℕ) → i ≢ r → i ≢ t → P i) → (i : ℕ) → P i
by_three P r t a b other i = ⊎_elim {C = P i} (λ e. subst P (sym e) a) (λ ne. ⊎_elim {C = P i} (λ e. subst P (sym e) b) (λ ne'. other i ne ne') (cases_eq i t)) (cases_eq i r)

swapped_back : (r t : ℕ) → t ≢ r → (i : ℕ) → swapped r t (swapped r t i) ≡ i
swapped_back r t ne =
    by_three (λ i. swapped r t (swapped r t i) ≡ i) r t
    (ap (swapped r t) (swapped_first r t) ∙ swapped_second r t ne)
    (ap (swapped r t) (swapped_second r t ne) ∙ swapped_first r t)
    (λ i a b. ap (swapped r t) (swapped_other r t i a b) ∙ swapped_other r t i a b)

-- two writes swap two places
pub swap_places : (places : List PlaceNumber) (r t : ℕ) (p q : PlaceNumber) → r < length places → t < length places → t ≢ r → p.0 ≡ place_in places r → q.0 ≡ place_in places t →
    (i : ℕ) → place_in (set (set places r q) t p) i ≡ place_in places (swapped r t i)
swap_places places r t p q lr lt ne ep eq =
    by_three (λ i. place_in (set (set places r q) t p) i ≡ place_in places (swapped r t i)) r t
    (place_kept (set places r q) t r p (λ e. ne (sym e)) ∙ place_put places r q lr ∙ eq ∙ ap (place_in places) (sym (swapped_first r t)))
    (place_put (set places r q) t p (rw length-set lt) ∙ ep ∙ ap (place_in places) (sym (swapped_second r t ne)))
    (λ i a b. place_kept (set places r q) t i p b ∙ place_kept places r i q a ∙ ap (place_in places) (sym (swapped_other r t i a b)))

-- entries that were swapped are places that changed places
pub swap_is : (xs ys : List PlaceNumber) (r t : ℕ) → SwappedAt xs ys r t → r < length xs → t < length xs → t ≢ r → (i : ℕ) → place_in ys i ≡ place_in xs (swapped r t i)
swap_is xs ys r t s lr lt ne i =
    let none : PlaceNumber = record { 0 = 0 } in
    ap (λ (l : List PlaceNumber). place_in l i) (s.3 none) ∙ swap_places xs r t _ _ lr lt ne (sym (place_at xs r none lr)) (sym (place_at xs t none lt)) i

-- how many of the first k places do not stand at their ranks
abbrev total : (ℕ → ℕ) → ℕ → ℕ
total u zero = 0
total u (suc k) = total u k + u k

total_less : (u w : ℕ → ℕ) → ((i : ℕ) → w i ≤ u i) → (k t : ℕ) → t < k → w t < u t → total w k < total u k
total_less u w all zero t l lt = absurd (omega arith)
total_less u w all (suc k) t l lt = ⊎_elim {C = total w k + w k < total u k + u k}
    (λ e. let a = total_most k in let b : w k < u k = subst (λ (i : ℕ). w i < u i) e lt in omega arith)
    (λ ne. let a = total_less u w all k t (omega arith) lt in let b = all k in omega arith)
    (cases_eq t k)
  where
    total_most : (k : ℕ) → total w k ≤ total u k
    total_most zero = omega arith
    total_most (suc k) = let a = total_most k in let b = all k in omega arith

abbrev stray : (ℕ → ℕ) → (ℕ → ℕ) → ℕ → ℕ
stray rank place i = cond (eqb (rank (place i)) i) 0 1

abbrev pub strays : (ℕ → ℕ) → (ℕ → ℕ) → ℕ → ℕ
strays rank place k = total (stray rank place) k

stray_most : (rank place : ℕ → ℕ) (i : ℕ) → stray rank place i ≤ 1
stray_most rank place i = go (eqb (rank (place i)) i)
  where
    go : (b : Bool) → cond b 0 1 ≤ 1
    go true = omega arith
    go false = omega arith

stray_one : (rank place : ℕ → ℕ) (i : ℕ) → rank (place i) ≢ i → stray rank place i ≡ 1
stray_one rank place i ne = ap (λ (b : Bool). cond b 0 1) (ne_eqb (rank (place i)) i ne)

stray_none : (rank place : ℕ → ℕ) (i : ℕ) → rank (place i) ≡ i → stray rank place i ≡ 0
stray_none rank place i e = ap (λ (b : Bool). cond b 0 1) (eq-eqb (rank (place i)) i e)

pub settled_none : (low high : ℕ) (rank place : ℕ → ℕ) → Settled low high low rank place place
settled_none low high rank place = record { done = λ i a b. absurd (omega arith); from = λ i a b. (i, a, b, refl); below = λ i h. refl; above = λ i h. refl }

module _ (low high : ℕ) (rank old place : ℕ → ℕ) (sh : Shuffled low high rank place) (r : ℕ) (above_low : low ≤ r) (in_window : r ≤ high) (st : Settled low high r rank old place) where
  -- the place at hand stands at its rank
  pub settled_more : rank (place r) ≡ r → Settled low high (r + 1) rank old place
  settled_more e = record {
    done = λ i a b. ⊎_elim {C = rank (place i) ≡ i} (λ q. subst (λ (j : ℕ). rank (place j) ≡ j) (sym q) e) (λ ne. st.done i a (omega arith)) (cases_eq i r);
    from = st.from;
    below = st.below;
    above = st.above;
  }

  module _ (t : ℕ) (is : t ≡ rank (place r)) (ne : t ≢ r) (new : ℕ → ℕ) (e : (i : ℕ) → new i ≡ place (swapped r t i)) where
    t_in : (low ≤ t) × (t ≤ high)
    t_in = let w = sh.within r above_low in_window in (omega (arith, w.0), omega (arith, w.1))

    inside : (i : ℕ) → low ≤ i → i ≤ high → (low ≤ swapped r t i) × (swapped r t i ≤ high)
    inside =
        by_three (λ i. low ≤ i → i ≤ high → (low ≤ swapped r t i) × (swapped r t i ≤ high)) r t
        (λ _ _. subst (λ (j : ℕ). (low ≤ j) × (j ≤ high)) (sym (swapped_first r t)) t_in)
        (λ _ _. subst (λ (j : ℕ). (low ≤ j) × (j ≤ high)) (sym (swapped_second r t ne)) (above_low, in_window))
        (λ i a b l h. subst (λ (j : ℕ). (low ≤ j) × (j ≤ high)) (sym (swapped_other r t i a b)) (l, h))

    -- t is not passed yet
    not_passed : (i : ℕ) → low ≤ i → i < r → i ≢ t
    not_passed i l h q = let d = st.done i l h in let f = sh.apart i r l (omega arith) above_low in_window (d ∙ q ∙ is) in omega arith

    pub swap_shuffled : Shuffled low high rank new
    swap_shuffled = record {
      within = λ i l h. let s = inside i l h in subst (λ (p : ℕ). (low ≤ rank p) × (rank p ≤ high)) (sym (e i)) (sh.within (swapped r t i) s.0 s.1);
      apart = λ i j li hi lj hj q.
          let a = inside i li hi in
          let b = inside j lj hj in
          let s = sh.apart (swapped r t i) (swapped r t j) a.0 a.1 b.0 b.1 (sym (ap rank (e i)) ∙ q ∙ ap rank (e j)) in
          sym (swapped_back r t ne i) ∙ ap (swapped r t) s ∙ swapped_back r t ne j;
    }

    pub swap_settled : Settled low high r rank old new
    swap_settled = record {
      done = λ i l h. ap rank (e i ∙ ap place (swapped_other r t i (λ q. omega arith) (not_passed i l h))) ∙ st.done i l h;
      from = λ i l h. let s = inside i l h in let f = st.from (swapped r t i) s.0 s.1 in (f.0, f.1, f.2, e i ∙ f.3);
      below = λ i h. let a = t_in in e i ∙ ap place (swapped_other r t i (λ q. omega arith) (λ q. omega (arith, a.0))) ∙ st.below i h;
      above = λ i h. let a = t_in in e i ∙ ap place (swapped_other r t i (λ q. omega arith) (λ q. omega (arith, a.1))) ∙ st.above i h;
    }

    pub swap_falls : strays rank new (high + 1) < strays rank place (high + 1)
    swap_falls =
        let a = t_in in
        let here : rank (new t) ≡ t = ap rank (e t ∙ ap place (swapped_second r t ne)) ∙ sym is in
        let not_here : rank (place t) ≢ t = λ q. ne (sh.apart t r a.0 a.1 above_low in_window (q ∙ is)) in
        let less : (i : ℕ) → stray rank new i ≤ stray rank place i =
        by_three (λ i. stray rank new i ≤ stray rank place i) r t
        (let x = stray_most rank new r in let y = stray_one rank place r (λ q. ne (is ∙ q)) in omega arith)
        (let x = stray_none rank new t here in omega arith)
        (λ i b c. let q : stray rank new i ≡ stray rank place i = ap (λ (p : ℕ). cond (eqb (rank p) i) 0 1) (e i ∙ ap place (swapped_other r t i b c)) in omega arith) in
        let x = stray_none rank new t here in
        let y = stray_one rank place t not_here in
        total_less (stray rank place) (stray rank new) less (high + 1) t (omega (arith, a.1)) (omega arith)

-- what is done below r is done below any lower rank
pub settled_at : (low high r k : ℕ) (rank old new : ℕ → ℕ) → k ≤ r → Settled low high r rank old new → Settled low high k rank old new
settled_at low high r k rank old new le st = record { done = λ i a b. st.done i a (omega arith); from = st.from; below = st.below; above = st.above }

-- one turn of the walk, at the rank r of the window: the place there, and its own rank
pub record Turn (ranks : List Rank) (order : List PlaceNumber) (low high r : ℕ) : Type 0 where
  pub here : r < length order
  pub known : (get_or order r (record { 0 = 0 })).0 < length ranks
  pub own_is : (get_or ranks (get_or order r (record { 0 = 0 })).0 (record { 0 = 0 })).0 ≡ rank_in ranks (place_in order r)
  pub within : (low ≤ rank_in ranks (place_in order r)) × (rank_in ranks (place_in order r) ≤ high)

pub turn_at : (ranks : List Rank) (old order : List PlaceNumber) (low high r : ℕ) → high < length order → ((i : ℕ) → i ≤ high → place_in old i < length ranks) →
    Shuffled low high (rank_in ranks) (place_in order) → Settled low high r (rank_in ranks) (place_in old) (place_in order) → low ≤ r → r ≤ high → Turn ranks order low high r
turn_at ranks old order low high r few places sh st above within =
    let none : PlaceNumber = record { 0 = 0 } in
    let here : r < length order = omega arith in
    let is : place_in order r ≡ (get_or order r none).0 = place_at order r none here in
    let f = st.from r above within in
    let known : (get_or order r none).0 < length ranks = let b = places f.0 f.2 in omega (arith, is, f.3) in
    record {
      here = here;
      known = known;
      own_is = sym (rank_at_lem ranks _ (record { 0 = 0 }) known) ∙ ap (rank_in ranks) (sym is);
      within = sh.within r above within;
    }
