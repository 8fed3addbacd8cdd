-- A label that is not free is explained by a path. Assumes nothing.
use Rattle.std.proofs.Common.{◌≡◌, ℕ, zero, suc, ◌<◌, ◌≤◌, Bool, true, false, not, ◌&&◌, eqb, ◌⊎◌, List, [], ◌∷◌, ◌++◌, sym, refl, ap, subst, inl, inr, ⊎_elim, not-suc-le-zero, arith}
use Rattle.std.specs.List.{ContainsAt as Has}
use Rattle.paths.specs.Kind.{Kind, Laws, FreeLaws}
use Rattle.std.proofs.lemmas.Bool.{both_ways, eq-eqb, eqb-true, and_parts, not-true, cases_Bool}
use Rattle.paths.specs.Ledger.{Link, Ledger, Leads, Path, at, over, along, contribution}
use Rattle.paths.specs.Equations.{inflow, Balanced, Topological}
use Rattle.paths.specs.Explain.{before, places, Kept, Lowest, Ends, begins, steps}
use Rattle.paths.proofs.Lists.{lowest_of}
use Rattle.paths.proofs.Joins.{inflow_ind}

places_before : {P : Type 0} {links : List (Link P)} {u v p : ℕ} (t : P) (m : Leads links u v t) (π : Path links v p) → places (before t m π) ≡ u ∷ places π
places_before t m at = refl
places_before t m (over {q = q} π s n) = ap (λ l. l ++ (q ∷ [])) (places_before t m π)

module _ {V P : Type 0} {k : Kind V P} (laws : Laws k) where
  along_empty : {links : List (Link P)} {u p : ℕ} (π : Path links u p) → along k π k.empty ≡ k.empty
  along_empty at = refl
  along_empty (over π t m) = let i = along_empty π in cc (laws.carry_empty t)

  along_join : {links : List (Link P)} {u p : ℕ} (π : Path links u p) (x y : V) → along k π (k.join x y) ≡ k.join (along k π x) (along k π y)
  along_join at x y = refl
  along_join (over π t m) x y = let i = along_join π x y in cc (laws.carry_join t (along k π x) (along k π y))

  pub along_before : {links : List (Link P)} {u v p : ℕ} (t : P) (m : Leads links u v t) (π : Path links v p) (x : V) →
      along k (before t m π) x ≡ along k π (k.carry t x)
  along_before t m at x = refl
  along_before t m (over π s n) x = ap (k.carry s) (along_before t m π x)

module _ {V P : Type 0} {k : Kind V P} (laws : Laws k) {free : ℕ → V → Bool} (free_laws : FreeLaws k free) where
  -- a link into v over which the label of its source keeps the end of the path
  abbrev pub Cause : (g : Ledger V P) (label : ℕ → V) (d : ℕ) {v p : ℕ} → Path g.links v p → Type 0
  Cause g label d {v} π = (u : ℕ) × (t : P) × Leads g.links u v t × Kept k free d π (k.carry t (label u))

  pub explain_step : (g : Ledger V P) (label : ℕ → V) → Balanced k g label → (d : ℕ) → 0 < d → {v p : ℕ} (π : Path g.links v p) →
      Kept k free d π (label v) → Kept k free d π (g.own v) ⊎ Cause g label d π
  explain_step g label bal d day {v} π h =
      ⊎_elim (λ o. ⊎_elim (λ f. absurd (no_way o f)) inr flow) inl (cases_Bool _)
    where
      Q : V → Type 0
      Q x = (free d (along k π x) ≡ true) ⊎ Cause g label d π

      flow : Q (inflow k label v g.links)
      flow =
          inflow_ind laws label v Q (inl (cc (along_empty laws π, free_laws.of_empty d day)))
          (λ x y a b. ⊎_elim (λ f. ⊎_elim (λ e. inl (cc (along_join laws π x y, free_laws.of_join d (along k π x) (along k π y)))) inr b) inr a)
          g.links (λ q t m. ⊎_elim inl (λ e. inr (q, t, m, e)) (cases_Bool _))

      no_way : free d (along k π (g.own v)) ≡ true → free d (along k π (inflow k label v g.links)) ≡ true → ⊥
      no_way o f =
          let own : V = g.own v in
          let more : V = inflow k label v g.links in
          let all : free d (along k π (label v)) ≡ true = cc (bal v, along_join laws π own more, free_laws.of_join d (along k π own) (along k π more)) in
          both_ways _ h all

  pub ends_kept : (g : Ledger V P) (label : ℕ → V) (d : ℕ) {p v u : ℕ} {π : Path g.links v p} {ρ : Path g.links u p} →
      Ends k free g label d p v π u ρ → free d (contribution k g ρ) ≡ false
  ends_kept g label d (begins h) = h
  ends_kept g label d (steps o low e) = ends_kept g label d e

  -- a cause with the lowest source
  lowest : (g : Ledger V P) (label : ℕ → V) (d : ℕ) {v p : ℕ} (π : Path g.links v p) → Cause g label d π → (u : ℕ) × (t : P) × Lowest k free g.links label d π u t
  lowest g label d {v} π c = ⊎_elim (λ none. absurd (both_ways _ (none (record { source = c.0; target = v; passage = c.1 }) c.2) (passes v (eq-eqb v v refl) c.0 c.1 c.3))) found (lowest_of (λ (l : Link P). l.source) test g.links)
    where
      test : Link P → Bool
      test l = eqb l.target v && not (free d (along k π (k.carry l.passage (label l.source))))

      passes : (w : ℕ) → eqb w v ≡ true → (u : ℕ) (t : P) → Kept k free d π (k.carry t (label u)) → test (record { source = u; target = w; passage = t }) ≡ true
      passes w e u t h = rw (e, h)

      found : ((l : Link P) × Has g.links l × (test l ≡ true) × ((m : Link P) → Has g.links m → test m ≡ true → l.source ≤ m.source)) →
          (u : ℕ) × (t : P) × Lowest k free g.links label d π u t
      found r =
          let s = and_parts (eqb r.0.target v) _ r.2 in (
            r.0.source,
            r.0.passage,
            record {
              leads = rw (← eqb-true r.0.target v s.0) r.1;
              keeps = not-true _ s.1;
              lowest = λ w q m h. r.3 (record { source = w; target = v; passage = q }) m (passes v (eq-eqb v v refl) w q h);
            },
          )

  -- the search ends
  pub ends : (g : Ledger V P) (rank : ℕ → ℕ) (label : ℕ → V) → Topological rank g.links → Balanced k g label → (d n : ℕ) → 0 < d → {v p : ℕ} (π : Path g.links v p) →
      rank v < n → Kept k free d π (label v) → (u : ℕ) × (ρ : Path g.links u p) × Ends k free g label d p v π u ρ
  ends g rank label up bal d zero day π l h = absurd (not-suc-le-zero l)
  ends g rank label up bal d (suc n) day {v} {p} π l h =
      ⊎_elim
      (λ o.
      let cause : Cause g label d π = ⊎_elim (λ e. absurd (both_ways _ e o)) (λ c. c) (explain_step g label bal d day π h) in
      let low = lowest g label d π cause in
      let m = low.2.leads in
      let lower = up low.0 v low.1 m in
      let r = ends g rank label up bal d n day (before low.1 m π) (omega arith) (cc (low.2.keeps, along_before laws low.1 m π (label low.0))) in
      (r.0, r.1, steps {u = r.0} {ρ = r.1} o low.2 r.2))
      (λ e. (v, π, begins e))
      (cases_Bool _)

  -- where two places have at most one link from the one to the other, the places of the path are the search's one answer
  pub ends_same : (g : Ledger V P) (label : ℕ → V) (d : ℕ) → ((u v : ℕ) (t s : P) → Leads g.links u v t → Leads g.links u v s → t ≡ s) → {p v u : ℕ} {π : Path g.links v p} {ρ : Path g.links u p} →
      Ends k free g label d p v π u ρ → (w x : ℕ) (σ : Path g.links w p) (τ : Path g.links x p) → v ≡ w → places π ≡ places σ → ((y : V) → along k π y ≡ along k σ y) →
      Ends k free g label d p w σ x τ → places ρ ≡ places τ
  ends_same g label d single (begins h) w x σ τ e f a (begins i) = f
  ends_same g label d single (begins {v = v} {π = π} h) w x σ τ e f a (steps o low r) =
      let z : free d (along k π (g.own v)) ≡ true = cc (a (g.own v), ap g.own e) in absurd (both_ways _ h z)
  ends_same g label d single (steps {v = v} {π = π} o low r) w x σ τ e f a (begins i) =
      let z : free d (along k σ (g.own w)) ≡ true = cc (a (g.own v), ap g.own e) in absurd (both_ways _ i z)
  ends_same g label d single (steps {v = v} {w = w₁} {π = π} {t = t₁} o low r) w x σ τ e f a (steps {w = w₂} {t = t₂} o' low' r') =
      let m : Leads g.links w₁ w t₁ = subst (λ z. Leads g.links w₁ z t₁) e low.leads in
      let kept : Kept k free d σ (k.carry t₁ (label w₁)) = cc (a (k.carry t₁ (label w₁)), low.keeps) in
      let m' : Leads g.links w₂ v t₂ = subst (λ z. Leads g.links w₂ z t₂) (sym e) low'.leads in
      let kept' : Kept k free d π (k.carry t₂ (label w₂)) = cc (a (k.carry t₂ (label w₂)), low'.keeps) in
      let q : w₁ ≡ w₂ = omega (arith, low'.lowest w₁ t₁ m kept, low.lowest w₂ t₂ m' kept') in
      let s : t₁ ≡ t₂ = single w₂ w t₁ t₂ (subst (λ z. Leads g.links z w t₁) q m) low'.leads in
      ends_same g label d single r w₂ x (before t₂ low'.leads σ) τ q
      (cc (places_before t₁ low.leads π, places_before t₂ low'.leads σ))
      (λ y. cc (along_before laws t₁ low.leads π y, along_before laws t₂ low'.leads σ y, a (k.carry t₁ y)))
      r'
