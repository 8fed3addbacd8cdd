-- Whether some link into a place comes from a place that is so. Assumes nothing.
use Rattle.std.proofs.Common.{◌≡◌, ℕ, ◌⊎◌, List, [], ◌∷◌, ap, subst, inl, inr, ⊎_elim}
use Rattle.std.proofs.lemmas.Bool.{cases_eq}
use Rattle.paths.specs.Ledger.{Link, Leads}
use Rattle.paths.proofs.Lists.{has_none, has_first, has_later, has_cases}

-- where each source of a link into p is one or the other, some source is the one or all are the other
pub some_source : {P : Type 0} (A B : ℕ → Type 0) (p : ℕ) (ls : List (Link P)) → ((q : ℕ) (t : P) → Leads ls q p t → A q ⊎ B q) →
    ((q : ℕ) × (t : P) × Leads ls q p t × A q) ⊎ ((q : ℕ) (t : P) → Leads ls q p t → B q)
some_source A B p [] tell = inr (λ q t m. absurd (has_none _ m))
some_source {P} A B p (l ∷ ls) tell =
    ⊎_elim (λ r. inl (r.0, r.1, has_later ls l _ r.2, r.3)) (λ rest. go rest (cases_eq l.target p))
    (some_source A B p ls (λ q t m. tell q t (has_later ls l _ m)))
  where
    go : ((q : ℕ) (t : P) → Leads ls q p t → B q) → (l.target ≡ p) ⊎ (l.target ≡ p → ⊥) →
        ((q : ℕ) × (t : P) × Leads (l ∷ ls) q p t × A q) ⊎ ((q : ℕ) (t : P) → Leads (l ∷ ls) q p t → B q)
    go rest (inl e) =
        let here : Leads (l ∷ ls) l.source p l.passage = rw (← e) (has_first ls l) in
        ⊎_elim (λ a. inl (l.source, l.passage, here, a))
        (λ b. inr (λ q t m. ⊎_elim (λ s. subst B (ap (λ (x : Link P). x.source) s) b) (rest q t) (has_cases ls l _ m)))
        (tell l.source l.passage here)
    go rest (inr n) = inr (λ q t m. ⊎_elim (λ s. absurd (n (ap (λ (x : Link P). x.target) s))) (rest q t) (has_cases ls l _ m))
