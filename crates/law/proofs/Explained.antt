-- What explains a place by one ledger explains it by another that says the same. Assumes nothing.
use Rattle.std.proofs.Common.{◌≡◌, ℕ, Bool, List, [], ◌∷◌, ◌++◌, sym, refl, ap, ◌∙◌, subst}
use Rattle.paths.specs.Kind.{Kind}
use Rattle.paths.specs.Ledger.{Link, Ledger, Leads, Path, at, over, along}
use Rattle.paths.specs.Explain.{before, places, Lowest, Ends, begins, steps, Explains}
use Rattle.law.specs.State.{Same}

module _ {P : Type 0} (ls ms : List (Link P)) (f : (u v : ℕ) (t : P) → Leads ls u v t → Leads ms u v t) where
  abbrev on : {u p : ℕ} → Path ls u p → Path ms u p
  on at = at
  on (over {p} {q} π t m) = over (on π) t (f p q t m)

  along_on : {V : Type 0} (k : Kind V P) {u p : ℕ} (π : Path ls u p) (x : V) → along k (on π) x ≡ along k π x
  along_on k at x = refl
  along_on k (over π t m) x = ap (k.carry t) (along_on k π x)

  before_on : {u v p : ℕ} (t : P) (m : Leads ls u v t) (π : Path ls v p) → on (before t m π) ≡ before t (f u v t m) (on π)
  before_on t m at = refl
  before_on t m (over {p} {q} π s h) = ap (λ ρ. over ρ s (f p q s h)) (before_on t m π)

  places_on : {u p : ℕ} (π : Path ls u p) → places (on π) ≡ places π
  places_on at = refl
  places_on (over {p} {q} π t m) = ap (λ (l : List ℕ). l ++ (q ∷ [])) (places_on π)

module _ {V P : Type 0} (k : Kind V P) (free : ℕ → V → Bool) {g h : Ledger V P} (s : Same g h) (label : ℕ → V) (d p : ℕ) where
  abbrev to : (u v : ℕ) (t : P) → Leads g.links u v t → Leads h.links u v t
  to u v t = (s.links u v t).0

  own_on : {v : ℕ} (π : Path g.links v p) → along k (on g.links h.links to π) (h.own v) ≡ along k π (g.own v)
  own_on {v} π = along_on g.links h.links to k π (h.own v) ∙ ap (along k π) (sym (s.own v))

  lowest_on : {v w : ℕ} (π : Path g.links v p) (t : P) → Lowest k free g.links label d π w t → Lowest k free h.links label d (on g.links h.links to π) w t
  lowest_on {v} {w} π t low =
      record {
        leads = to w v t low.leads;
        keeps = ap (free d) (along_on g.links h.links to k π _) ∙ low.keeps;
        lowest = λ x y m e. low.lowest x y ((s.links x v y).1 m) (ap (free d) (sym (along_on g.links h.links to k π _)) ∙ e);
      }

  ends_on : {v u : ℕ} {π : Path g.links v p} {ρ : Path g.links u p} → Ends k free g label d p v π u ρ → Ends k free h label d p v (on g.links h.links to π) u (on g.links h.links to ρ)
  unfolding lowest_on
  ends_on (begins {v} {π} e) = begins (ap (free d) (own_on π) ∙ e)
  ends_on (steps {v} {w} {u} {π} {ρ} {t} e low rest) =
      steps (ap (free d) (own_on π) ∙ e) (lowest_on π t low) (subst (λ z. Ends k free h label d p w z u (on g.links h.links to ρ)) (before_on g.links h.links to t low.leads π) (ends_on rest))

  pub explained_on : (ps : List ℕ) → (u : ℕ) × (ρ : Path g.links u p) × Explains k free g label d p u ρ × (ps ≡ places ρ) →
      (u : ℕ) × (ρ : Path h.links u p) × Explains k free h label d p u ρ × (ps ≡ places ρ)
  explained_on ps (u, ρ, e, q) = (u, on g.links h.links to ρ, ends_on e, q ∙ sym (places_on g.links h.links to ρ))
