-- The unused rows. Assumes nothing.
use Rattle.std.proofs.Common.{◌≡◌, ℕ, suc, ◌+◌, ◌-◌, ◌<◌, ◌≤◌, sym, ap, ◌∙◌, subst, ⊎_elim, arith}
use Rattle.std.proofs.lemmas.Bool.{cases_eq}
use Rattle.links.specs.Table.{Free}

module _ (cap : ℕ) (dead down dead' down' : ℕ → ℕ) (count s : ℕ) (other : (k : ℕ) → (k ≡ s → ⊥) → dead' k ≡ dead k)
    (other_down : (k : ℕ) → k < cap → (k ≡ s → ⊥) → (dead k ≡ 0 → ⊥) → down' k ≡ down k) where
  -- the topmost one is put to use
  pub free_pop : Free cap dead down count s → count < cap → dead' s ≡ 0 → Free cap dead' down' (count + 1) (down s)
  free_pop f room zero =
      let t = f.top room in
      let not_s : (k : ℕ) → 0 < dead' k → k ≡ s → ⊥ = λ k p e. let z = ap dead' e in omega arith in
      let lower : (k : ℕ) → k < cap → (k ≡ s → ⊥) → dead k ≡ cap - count → ⊥ = λ k l ne e. ne (f.apart k s l t.0 (omega arith) (e ∙ sym t.1)) in
      record {
        within = omega arith;
        top = λ more.
            let u = f.under s t.0 (omega (arith, t.1)) in
            let ne : down s ≡ s → ⊥ = λ e. let z = ap dead e in omega (arith, u.1) in
            (u.0, omega (arith, other (down s) ne, u.1, t.1));
        depth = λ k l. ⊎_elim {C = dead' k ≤ cap - (count + 1)}
            (λ e. let z = ap dead' e in omega arith)
            (λ ne. let d = f.depth k l in let n = lower k l ne in omega (arith, other k ne))
            (cases_eq k s);
        under = λ k l p.
            let ne = not_s k (omega arith) in
            let o = other k ne in
            let u = f.under k l (omega arith) in
            let d = f.depth k l in
            let nd : down k ≡ s → ⊥ = λ e. let z = ap dead e in omega (arith, u.1, t.1) in
            let e = other_down k l ne (λ z. omega arith) in
            (rw e u.0, rw e (omega (arith, other (down k) nd, u.1)));
        apart = λ j k lj lk p e.
            let nj = not_s j p in
            let nk = not_s k (omega arith) in
            f.apart j k lj lk (omega (arith, other j nj)) (sym (other j nj) ∙ e ∙ other k nk);
      }

  -- a row is put on top
  pub free_push : (free : ℕ) → Free cap dead down (suc count) free → s < cap → dead s ≡ 0 → dead' s ≡ cap - count → down' s ≡ free → Free cap dead' down' count s
  free_push free f ls zero top down_s =
      let w = f.within in
      record {
        within = omega arith;
        top = λ _. (ls, top);
        depth = λ k l. ⊎_elim {C = dead' k ≤ cap - count}
            (λ e. let z = ap dead' e in omega arith)
            (λ ne. let d = f.depth k l in omega (arith, other k ne))
            (cases_eq k s);
        under = λ k l p. ⊎_elim {C = (down' k < cap) × (suc (dead' (down' k)) ≡ dead' k)}
            (λ e. subst (λ i. (down' i < cap) × (suc (dead' (down' i)) ≡ dead' i)) (sym e)
            (let p' : 1 < dead' s = subst (λ i. 1 < dead' i) e p in
            let t = f.top (omega arith) in
            let nf : free ≡ s → ⊥ = λ q. let z = ap dead q in omega (arith, t.1) in
            (rw down_s t.0, rw down_s (omega (arith, other free nf, t.1)))))
            (λ ne.
            let o = other k ne in
            let u = f.under k l (omega arith) in
            let nd : down k ≡ s → ⊥ = λ q. let z = ap dead q in omega (arith, u.1) in
            let e = other_down k l ne (λ z. omega arith) in
            (rw e u.0, rw e (omega (arith, other (down k) nd, u.1))))
            (cases_eq k s);
        apart = λ j k lj lk p e. ⊎_elim {C = j ≡ k}
            (λ js. ⊎_elim {C = j ≡ k}
            (λ ks. js ∙ sym ks)
            (λ nk. let z = ap dead' js in let d = f.depth k lk in absurd (omega (arith, other k nk)))
            (cases_eq k s))
            (λ nj. ⊎_elim {C = j ≡ k}
            (λ ks. let z = ap dead' ks in let d = f.depth j lj in absurd (omega (arith, other j nj)))
            (λ nk. f.apart j k lj lk (omega (arith, other j nj)) (sym (other j nj) ∙ e ∙ other k nk))
            (cases_eq k s))
            (cases_eq j s);
      }
