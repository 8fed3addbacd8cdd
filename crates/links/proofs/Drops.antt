-- A slot taken out of a sorted thread. Assumes nothing.
use Rattle.std.proofs.Common.{◌≡◌, ℕ, suc, ◌<◌, ◌≤◌, sym, refl, ap, ◌∙◌, subst, ⊎_elim, arith}
use Rattle.std.proofs.lemmas.Bool.{cases_eq, cases_lt}
use Rattle.links.specs.Threads.{Threads, Least, Sorted, Single, Bounded, Gap, after}
use Rattle.links.proofs.Walks.{after_live, after_dead}
use Rattle.links.proofs.Adds.{least_at}

-- t' is t without the slot s, which hung at p behind prev
pub record Dropped (t t' : Threads) (p prev s : ℕ) : Type 0 where
  pub cap : t'.cap ≡ t.cap
  pub live : t.dead s ≡ 0
  pub s_hub : t.hub s ≡ p
  pub gone : t'.dead s ≡ 0 → ⊥
  pub same_dead : (k : ℕ) → (k ≡ s → ⊥) → t'.dead k ≡ t.dead k
  pub same_hub : (k : ℕ) → (k ≡ s → ⊥) → t'.hub k ≡ t.hub k
  pub same_key : (k : ℕ) → (k ≡ s → ⊥) → t'.key k ≡ t.key k
  pub same_next : (k : ℕ) → (k ≡ s → ⊥) → (k ≡ prev → ⊥) → t'.next k ≡ t.next k
  pub behind : prev < t.cap → t'.next prev ≡ t.next s
  pub same_head : (q : ℕ) → (q ≡ p → ⊥) → t'.head q ≡ t.head q
  pub stays_head : prev < t.cap → t'.head p ≡ t.head p
  pub new_head : t.cap ≤ prev → t'.head p ≡ t.next s

module _ (t t' : Threads) (p prev s : ℕ) (a : Dropped t t' p prev s) (n : ℕ) (bd : Bounded t) (one : Single t) (so : Sorted t n) (g : Gap t p (t.key s) prev s) where
  other : (k : ℕ) → t'.dead k ≡ 0 → k ≡ s → ⊥
  other k d e = a.gone (rw (← e) d)

  prev_below : prev < t.cap → t.key prev < t.key s
  prev_below l = let b = g.way.behind l in let e = after_live t prev b.0 in omega (arith, g.way.low)

  prev_none : t.cap ≤ prev → after t prev ≡ 0
  prev_none l = after_dead t prev (λ d. let h = bd prev d in omega arith)

  least_keep : (q b r : ℕ) → (r ≡ s → ⊥) → Least t q b r → Least t' q b r
  least_keep q b r ne l = record {
    here = λ i. let h = l.here (omega (arith, a.cap)) in (a.same_dead r ne ∙ h.0, a.same_hub r ne ∙ h.1, omega (arith, a.same_key r ne, h.2));
    least = λ j d h le.
        let nj = other j d in
        let m = l.least j (sym (a.same_dead j nj) ∙ d) (sym (a.same_hub j nj) ∙ h) (omega (arith, a.same_key j nj)) in
        (omega (arith, a.cap, m.0), omega (arith, a.same_key j nj, a.same_key r ne, m.1));
  }

  least_skip : (b : ℕ) → Least t p b s → Least t' p b (t.next s)
  least_skip b l =
      let after_s = so.later s a.live in
      let r = t.next s in
      let low : b ≤ t.key s = (l.here (bd s a.live)).2 in
      let not_s : (i : r < t.cap) → r ≡ s → ⊥ = λ i e. let h = after_s.here i in let f = ap t.key e in omega (arith, h.2) in
      record {
        here = λ i.
            let i' : r < t.cap = omega (arith, a.cap) in
            let h = after_s.here i' in
            let ne = not_s i' in
            (a.same_dead r ne ∙ h.0, a.same_hub r ne ∙ h.1 ∙ a.s_hub, omega (arith, a.same_key r ne, h.2));
        least = λ j d h le.
            let nj = other j d in
            let dj = sym (a.same_dead j nj) ∙ d in
            let hj = sym (a.same_hub j nj) ∙ h in
            let m = l.least j dj hj (omega (arith, a.same_key j nj)) in
            let ne : t.key s ≡ t.key j → ⊥ = λ e. nj (one j s dj a.live (hj ∙ sym a.s_hub) (sym e)) in
            let o = after_s.least j dj (hj ∙ sym a.s_hub) (omega (arith, m.1)) in
            (omega (arith, a.cap, o.0), omega (arith, a.same_key j nj, a.same_key r (not_s o.0), o.1));
      }

  head_sorted : (q : ℕ) → q < n → Least t' q 0 (t'.head q)
  head_sorted q l = ⊎_elim {C = Least t' q 0 (t'.head q)}
      (λ e. subst (λ r. Least t' r 0 (t'.head r)) (sym e)
      (let f : Least t p 0 (t.head p) = so.first p (rw (← e) l) in
      ⊎_elim {C = Least t' p 0 (t'.head p)}
      (λ i.
      let b = g.way.behind i in
      let m = f.least prev b.0 b.1 (omega arith) in
      let ne : t.head p ≡ s → ⊥ = λ z. let y = ap t.key z in let w = prev_below i in omega (arith, m.1) in
      least_at t' p 0 (t.head p) p 0 (t'.head p) refl refl (sym (a.stays_head i)) (least_keep p 0 (t.head p) ne f))
      (λ i.
      least_at t' p 0 (t.next s) p 0 (t'.head p) refl refl (sym (a.new_head i)) (least_skip 0 (subst (Least t p 0) (g.way.start i) f)))
      (cases_lt prev t.cap)))
      (λ ne.
      let f : Least t q 0 (t.head q) = so.first q l in
      let no_s : t.head q ≡ s → ⊥ = λ z. ne (sym (subst (λ r. t.hub r ≡ q) z (f.here (rw z (bd s a.live))).1) ∙ a.s_hub) in
      least_at t' q 0 (t.head q) q 0 (t'.head q) refl refl (sym (a.same_head q ne)) (least_keep q 0 (t.head q) no_s f))
      (cases_eq q p)

  -- only prev goes on to s
  not_to_s : (k : ℕ) → p < n → t.dead k ≡ 0 → (k ≡ prev → ⊥) → t.next k ≡ s → ⊥
  not_to_s k pn d np z =
      let f = so.later k d in
      let h = f.here (rw z (bd s a.live)) in
      let hub_k : t.hub k ≡ p = sym h.1 ∙ ap t.hub z ∙ a.s_hub in
      let y = ap t.key z in
      ⊎_elim {C = ⊥}
      (λ i.
      let b = g.way.behind i in
      let e = after_live t prev b.0 in
      let w = prev_below i in
      let same : t.key k ≡ t.key prev → ⊥ = λ q. np (one k prev d b.0 (hub_k ∙ sym b.1) q) in
      let under : t.key k < t.key prev → ⊥ = λ q. let m = f.least prev b.0 (b.1 ∙ sym hub_k) q in omega (arith, m.1) in
      let over : t.key prev < t.key k → ⊥ = λ q. let m = g.way.least.least k d hub_k (omega arith) in omega (arith, m.1, h.2) in
      ⊎_elim {C = ⊥} under (λ ge. ⊎_elim {C = ⊥} same (λ ns. over (omega arith)) (cases_eq (t.key k) (t.key prev))) (cases_lt (t.key k) (t.key prev)))
      (λ i.
      let m = (so.first p pn).least k d hub_k (omega arith) in
      let e = ap t.key (g.way.start i) in
      omega (arith, m.1, h.2))
      (cases_lt prev t.cap)

  later_sorted : (k : ℕ) → p < n → t'.dead k ≡ 0 → Least t' (t'.hub k) (suc (t'.key k)) (t'.next k)
  later_sorted k pn d =
      let ne = other k d in
      let d' = sym (a.same_dead k ne) ∙ d in
      ⊎_elim {C = Least t' (t'.hub k) (suc (t'.key k)) (t'.next k)}
      (λ e.
      let i : prev < t.cap = bd prev (rw (← e) d') in
      let b = g.way.behind i in
      let l : Least t p (suc (t.key prev)) s = subst (λ c. Least t p c s) (after_live t prev b.0) g.way.least in
      least_at t' p (suc (t.key prev)) (t.next s) (t'.hub k) (suc (t'.key k)) (t'.next k)
      (sym b.1 ∙ ap t.hub (sym e) ∙ sym (a.same_hub k ne)) (ap suc (ap t.key (sym e) ∙ sym (a.same_key k ne))) (sym (ap t'.next e ∙ a.behind i))
      (least_skip (suc (t.key prev)) l))
      (λ np.
      least_at t' (t.hub k) (suc (t.key k)) (t.next k) (t'.hub k) (suc (t'.key k)) (t'.next k) (sym (a.same_hub k ne)) (ap suc (sym (a.same_key k ne))) (sym (a.same_next k ne np))
      (least_keep (t.hub k) (suc (t.key k)) (t.next k) (not_to_s k pn d' np) (so.later k d')))
      (cases_eq k prev)

  pub dropped_sorted : p < n → Sorted t' n
  dropped_sorted pn = record { first = head_sorted; later = λ k d. later_sorted k pn d }

  pub dropped_single : Single t'
  dropped_single j k dj dk h e =
      let nj = other j dj in
      let nk = other k dk in
      one j k (sym (a.same_dead j nj) ∙ dj) (sym (a.same_dead k nk) ∙ dk) (sym (a.same_hub j nj) ∙ h ∙ a.same_hub k nk) (sym (a.same_key j nj) ∙ e ∙ a.same_key k nk)
