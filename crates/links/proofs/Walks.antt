-- The way along a sorted thread. Assumes nothing.
use Rattle.std.proofs.Common.{◌≡◌, ℕ, zero, suc, ◌-◌, ◌<◌, ◌≤◌, sym, refl, ap, subst, arith}
use Rattle.links.specs.Threads.{Threads, Least, Sorted, Way, after, after_by}

pub after_live : (t : Threads) (k : ℕ) → t.dead k ≡ 0 → after t k ≡ suc (t.key k)
after_live t k e = ap (λ d. after_by d (t.key k)) e

pub after_dead : (t : Threads) (k : ℕ) → (t.dead k ≡ 0 → ⊥) → after t k ≡ 0
after_dead t k ne = go (t.dead k) refl
  where
    go : (d : ℕ) → t.dead k ≡ d → after_by d (t.key k) ≡ 0
    go zero e = absurd (ne e)
    go (suc d) e = refl

pub way_start : (t : Threads) (n p x prev : ℕ) → Sorted t n → p < n → t.cap ≤ prev → (t.dead prev ≡ 0 → ⊥) → Way t p x prev (t.head p)
way_start t n p x prev s l c ne =
    let e = after_dead t prev ne in
    record {
      low = omega arith;
      least = subst (λ b. Least t p b (t.head p)) (sym e) (s.first p l);
      behind = λ h. absurd (omega arith);
      start = λ _. refl;
    }

pub way_on : (t : Threads) (n p x prev at : ℕ) → Sorted t n → at < t.cap → t.key at < x → Way t p x prev at → Way t p x at (t.next at)
way_on t n p x prev at s l lt w =
    let h = w.least.here l in
    let e = after_live t at h.0 in
    record {
      low = omega arith;
      least = subst (λ b. Least t p b (t.next at)) (sym e) (subst (λ q. Least t q (suc (t.key at)) (t.next at)) h.1 (s.later at h.0));
      behind = λ _. (h.0, h.1, refl);
      start = λ q. absurd (omega arith);
    }

pub way_falls : (t : Threads) (p x prev at : ℕ) → at < t.cap → t.key at < x → Way t p x prev at → x - after t at < x - after t prev
way_falls t p x prev at l lt w = let h = w.least.here l in let e = after_live t at h.0 in omega arith
