-- A slot put into a sorted thread. Assumes nothing.
use Rattle.std.proofs.Common.{◌≡◌, ℕ, suc, ◌<◌, ◌≤◌, sym, refl, ap, ◌∙◌, subst, ⊎_elim, arith}
use Rattle.std.proofs.lemmas.Bool.{cases_eq, cases_lt}
use Rattle.links.specs.Threads.{Threads, Least, Sorted, Single, Bounded, Gap, after}
use Rattle.links.proofs.Walks.{after_live, after_dead}

-- t' is t with the slot s put in at p under the key x, behind prev and before at
pub record Added (t t' : Threads) (p x prev at s : ℕ) : Type 0 where
  pub cap : t'.cap ≡ t.cap
  pub spare : t.dead s ≡ 0 → ⊥
  pub inside : s < t.cap
  pub s_dead : t'.dead s ≡ 0
  pub s_hub : t'.hub s ≡ p
  pub s_key : t'.key s ≡ x
  pub s_next : t'.next s ≡ at
  pub same_dead : (k : ℕ) → (k ≡ s → ⊥) → t'.dead k ≡ t.dead k
  pub same_hub : (k : ℕ) → (k ≡ s → ⊥) → t'.hub k ≡ t.hub k
  pub same_key : (k : ℕ) → (k ≡ s → ⊥) → t'.key k ≡ t.key k
  pub same_next : (k : ℕ) → (k ≡ s → ⊥) → (k ≡ prev → ⊥) → t'.next k ≡ t.next k
  pub behind : prev < t.cap → t'.next prev ≡ s
  pub same_head : (q : ℕ) → (q ≡ p → ⊥) → t'.head q ≡ t.head q
  pub stays_head : prev < t.cap → t'.head p ≡ t.head p
  pub new_head : t.cap ≤ prev → t'.head p ≡ s

pub least_at : (t : Threads) (p b s p' b' s' : ℕ) → p ≡ p' → b ≡ b' → s ≡ s' → Least t p b s → Least t p' b' s'
least_at t p b s p' b' s' e f g l = subst (Least t p' b') g (subst (λ c. Least t p' c s) f (subst (λ q. Least t q b s) e l))

module _ (t t' : Threads) (p x prev at s : ℕ) (a : Added t t' p x prev at s) where
  other : (k : ℕ) → t.dead k ≡ 0 → k ≡ s → ⊥
  other k d e = a.spare (rw (← e) d)

  old_here : (q b r : ℕ) → Least t q b r → r < t'.cap → (t'.dead r ≡ 0) × (t'.hub r ≡ q) × (b ≤ t'.key r)
  old_here q b r l i =
      let h = l.here (omega (arith, a.cap)) in
      let ne = other r h.0 in
      (a.same_dead r ne ∙ h.0, a.same_hub r ne ∙ h.1, omega (arith, a.same_key r ne, h.2))

  old_least : (q b r j : ℕ) → Least t q b r → (j ≡ s → ⊥) → t'.dead j ≡ 0 → t'.hub j ≡ q → b ≤ t'.key j → (r < t'.cap) × (t'.key r ≤ t'.key j)
  old_least q b r j l ne d h le =
      let m = l.least j (sym (a.same_dead j ne) ∙ d) (sym (a.same_hub j ne) ∙ h) (omega (arith, a.same_key j ne)) in
      let i = l.here m.0 in
      (omega (arith, a.cap, m.0), omega (arith, a.same_key j ne, a.same_key r (other r i.0), m.1))

  -- s is not among those asked for
  least_keep : (q b r : ℕ) → (q ≡ p → x < b) → Least t q b r → Least t' q b r
  least_keep q b r out l = record {
    here = old_here q b r l;
    least = λ j d h le. ⊎_elim {C = (r < t'.cap) × (t'.key r ≤ t'.key j)}
        (λ e. let le' : b ≤ t'.key s = rw (← e) le in let h' : t'.hub s ≡ q = rw (← e) h in absurd (let o = out (sym h' ∙ a.s_hub) in omega (arith, a.s_key)))
        (λ ne. old_least q b r j l ne d h le)
        (cases_eq j s);
  }

  -- another one with a lower key is among those asked for
  least_through : (b r i : ℕ) → t.dead i ≡ 0 → t.hub i ≡ p → b ≤ t.key i → t.key i < x → Least t p b r → Least t' p b r
  least_through b r i di hi bi lt l =
      let m = l.least i di hi bi in
      let h = l.here m.0 in
      let k = a.same_key r (other r h.0) in
      record {
        here = old_here p b r l;
        least = λ j d h le. ⊎_elim {C = (r < t'.cap) × (t'.key r ≤ t'.key j)}
            (λ e. let f = ap t'.key e in (omega (arith, a.cap, m.0), omega (arith, a.s_key, m.1)))
            (λ ne. old_least p b r j l ne d h le)
            (cases_eq j s);
      }

  -- s itself is the least
  least_put : (b : ℕ) → b ≤ x → (at < t.cap → x ≤ t.key at) → Least t p b at → Least t' p b s
  least_put b le high l = record {
    here = λ _. (a.s_dead, a.s_hub, omega (arith, a.s_key));
    least = λ j d h bj. ⊎_elim {C = (s < t'.cap) × (t'.key s ≤ t'.key j)}
        (λ e. let f = ap t'.key e in (omega (arith, a.cap, a.inside), omega arith))
        (λ ne. let m = old_least p b at j l ne d h bj in
        let i : at < t.cap = omega (arith, a.cap, m.0) in
        let k = a.same_key at (other at (l.here i).0) in
        (omega (arith, a.cap, a.inside), omega (arith, a.s_key, high i, m.1)))
        (cases_eq j s);
  }

  module _ (n : ℕ) (bd : Bounded t) (one : Single t) (so : Sorted t n) (g : Gap t p x prev at) (fresh : (k : ℕ) → t.dead k ≡ 0 → t.hub k ≡ p → t.key k ≡ x → ⊥) where
    prev_below : prev < t.cap → t.key prev < x
    prev_below l = let b = g.way.behind l in let e = after_live t prev b.0 in omega (arith, g.way.low)

    prev_none : t.cap ≤ prev → after t prev ≡ 0
    prev_none l = after_dead t prev (λ d. let h = bd prev d in omega arith)

    -- the least above x, as s has it
    above : Least t p (suc x) at
    above = record {
      here = λ i.
          let h = g.way.least.here i in
          let f : t.key at ≡ x → ⊥ = fresh at h.0 h.1 in
          (h.0, h.1, omega (arith, g.high i));
      least = λ j d h le. g.way.least.least j d h (omega (arith, g.way.low));
    }

    -- a slot at p with a key below x has prev at or behind it
    before : (k : ℕ) → t.dead k ≡ 0 → t.hub k ≡ p → t.key k < x → (k ≡ prev → ⊥) → (prev < t.cap) × (t.key k < t.key prev)
    before k d h lt ne = ⊎_elim {C = (prev < t.cap) × (t.key k < t.key prev)}
        (λ l.
        let b = g.way.behind l in
        let e = after_live t prev b.0 in
        let same : t.key k ≡ t.key prev → ⊥ = λ f. ne (one k prev d b.0 (h ∙ sym b.1) f) in
        let not_above : suc (t.key prev) ≤ t.key k → ⊥ = λ f. let m = g.way.least.least k d h (omega arith) in let z = g.high m.0 in omega (arith, m.1) in
        (l, ⊎_elim {C = t.key k < t.key prev} (λ y. y) (λ y. absurd (⊎_elim {C = ⊥} same (λ z. not_above (omega arith)) (cases_eq (t.key k) (t.key prev)))) (cases_lt (t.key k) (t.key prev))))
        (λ l.
        let e = prev_none l in
        let m = g.way.least.least k d h (omega arith) in
        let z = g.high m.0 in
        absurd (omega (arith, m.1)))
        (cases_lt prev t.cap)

    head_sorted : (q : ℕ) → q < n → Least t' q 0 (t'.head q)
    head_sorted q l = ⊎_elim {C = Least t' q 0 (t'.head q)}
        (λ e. subst (λ r. Least t' r 0 (t'.head r)) (sym e)
        (⊎_elim {C = Least t' p 0 (t'.head p)}
        (λ i.
        let b = g.way.behind i in
        least_at t' p 0 (t.head p) p 0 (t'.head p) refl refl (sym (a.stays_head i))
        (least_through 0 (t.head p) prev b.0 b.1 (omega arith) (prev_below i) (so.first p (rw (← e) l))))
        (λ i.
        least_at t' p 0 s p 0 (t'.head p) refl refl (sym (a.new_head i))
        (least_put 0 (omega arith) g.high (subst (λ b. Least t p b at) (prev_none i) g.way.least)))
        (cases_lt prev t.cap)))
        (λ ne. least_at t' q 0 (t.head q) q 0 (t'.head q) refl refl (sym (a.same_head q ne)) (least_keep q 0 (t.head q) (λ e. absurd (ne e)) (so.first q l)))
        (cases_eq q p)

    old_later : (k : ℕ) → t.dead k ≡ 0 → (k ≡ prev → ⊥) → Least t' (t.hub k) (suc (t.key k)) (t.next k)
    old_later k d np = ⊎_elim {C = Least t' (t.hub k) (suc (t.key k)) (t.next k)}
        (λ h. ⊎_elim {C = Least t' (t.hub k) (suc (t.key k)) (t.next k)}
        (λ lt.
        let b = before k d h lt np in
        let w = g.way.behind b.0 in
        subst (λ q. Least t' q (suc (t.key k)) (t.next k)) (sym h)
        (least_through (suc (t.key k)) (t.next k) prev w.0 w.1 (omega (arith, b.1)) (prev_below b.0) (subst (λ q. Least t q (suc (t.key k)) (t.next k)) h (so.later k d))))
        (λ ge. least_keep (t.hub k) (suc (t.key k)) (t.next k) (λ _. omega arith) (so.later k d))
        (cases_lt (t.key k) x))
        (λ nh. least_keep (t.hub k) (suc (t.key k)) (t.next k) (λ e. absurd (nh e)) (so.later k d))
        (cases_eq (t.hub k) p)

    later_sorted : (k : ℕ) → t'.dead k ≡ 0 → Least t' (t'.hub k) (suc (t'.key k)) (t'.next k)
    later_sorted k d = ⊎_elim {C = Least t' (t'.hub k) (suc (t'.key k)) (t'.next k)}
        (λ e. subst (λ j. Least t' (t'.hub j) (suc (t'.key j)) (t'.next j)) (sym e)
        (least_at t' p (suc x) at (t'.hub s) (suc (t'.key s)) (t'.next s) (sym a.s_hub) (ap suc (sym a.s_key)) (sym a.s_next)
        (least_keep p (suc x) at (λ _. omega arith) above)))
        (λ ne.
        let d' = sym (a.same_dead k ne) ∙ d in
        ⊎_elim {C = Least t' (t'.hub k) (suc (t'.key k)) (t'.next k)}
        (λ e.
        let i : prev < t.cap = bd prev (rw (← e) d') in
        let b = g.way.behind i in
        let l : Least t p (suc (t.key prev)) at = subst (λ c. Least t p c at) (after_live t prev b.0) g.way.least in
        least_at t' p (suc (t.key prev)) s (t'.hub k) (suc (t'.key k)) (t'.next k)
        (sym b.1 ∙ ap t.hub (sym e) ∙ sym (a.same_hub k ne)) (ap suc (ap t.key (sym e) ∙ sym (a.same_key k ne))) (sym (ap t'.next e ∙ a.behind i))
        (least_put (suc (t.key prev)) (prev_below i) g.high l))
        (λ np.
        least_at t' (t.hub k) (suc (t.key k)) (t.next k) (t'.hub k) (suc (t'.key k)) (t'.next k) (sym (a.same_hub k ne)) (ap suc (sym (a.same_key k ne))) (sym (a.same_next k ne np))
        (old_later k d' np))
        (cases_eq k prev))
        (cases_eq k s)

    pub added_sorted : Sorted t' n
    added_sorted = record { first = head_sorted; later = later_sorted }

    pub added_single : Single t'
    added_single j k dj dk h e = ⊎_elim {C = j ≡ k}
        (λ js. ⊎_elim {C = j ≡ k}
        (λ ks. js ∙ sym ks)
        (λ nk. absurd (fresh k (sym (a.same_dead k nk) ∙ dk) (sym (a.same_hub k nk) ∙ sym h ∙ ap t'.hub js ∙ a.s_hub) (sym (a.same_key k nk) ∙ sym e ∙ ap t'.key js ∙ a.s_key)))
        (cases_eq k s))
        (λ nj. ⊎_elim {C = j ≡ k}
        (λ ks. absurd (fresh j (sym (a.same_dead j nj) ∙ dj) (sym (a.same_hub j nj) ∙ h ∙ ap t'.hub ks ∙ a.s_hub) (sym (a.same_key j nj) ∙ e ∙ ap t'.key ks ∙ a.s_key)))
        (λ nk. one j k (sym (a.same_dead j nj) ∙ dj) (sym (a.same_dead k nk) ∙ dk) (sym (a.same_hub j nj) ∙ h ∙ a.same_hub k nk) (sym (a.same_key j nj) ∙ e ∙ a.same_key k nk))
        (cases_eq k s))
        (cases_eq j s)
