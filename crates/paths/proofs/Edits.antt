-- What an edit at one place leaves as it was. Assumes nothing.
use Rattle.std.proofs.Common.{◌≡◌, ℕ, List, sym, refl, ⊎_elim}
use Rattle.paths.specs.Kind.{Kind, Laws, Within}
use Rattle.paths.specs.Ledger.{Link, Ledger, Leads}
use Rattle.paths.specs.Equations.{inflow, Balanced}
use Rattle.paths.specs.Edits.{AgreeAt, Edited, Stands, Relabelled}
use Rattle.paths.proofs.Within.{within_both, within_join}
use Rattle.paths.proofs.Joins.{inflow_ind, inflow_takes}

module _ {V P : Type 0} {k : Kind V P} (laws : Laws k) where
  -- what the links into p bring lies within, where each of the first links is among the second, from a place of the same label
  inflow_within : (a b : ℕ → V) (p : ℕ) (ls ms : List (Link P)) → ((u : ℕ) (t : P) → Leads ls u p t → Leads ms u p t × (a u ≡ b u)) →
      Within k (inflow k a p ls) (inflow k b p ms)
  inflow_within a b p ls ms sub =
      inflow_ind laws a p (λ x. Within k x (inflow k b p ms)) (laws.unit _) (λ x y. within_join laws x y _) ls
      (λ q t m. let both = sub q t m in rw both.1 (inflow_takes laws b p q t ms both.0))

  -- so places whose links in agree, from places of the same labels, are brought the same
  pub inflow_same : (a b : ℕ → V) (g h : Ledger V P) (p : ℕ) → AgreeAt g h p → ((u : ℕ) (t : P) → Leads h.links u p t → a u ≡ b u) →
      inflow k a p g.links ≡ inflow k b p h.links
  inflow_same a b g h p agree same =
      within_both laws _ _
      (inflow_within a b p g.links h.links (λ u t m. let n = (agree.links u t).0 m in (n, same u t n)))
      (inflow_within b a p h.links g.links (λ u t m. ((agree.links u t).1 m, sym (same u t m))))

  -- the same over the links of one ledger
  pub inflow_eq : (a b : ℕ → V) (g : Ledger V P) (p : ℕ) → ((u : ℕ) (t : P) → Leads g.links u p t → a u ≡ b u) → inflow k a p g.links ≡ inflow k b p g.links
  inflow_eq a b g p same = inflow_same a b g g p (record { own = refl; links = λ u t. (λ m. m, λ m. m) }) same

  -- a place that was not edited, and to which no link leads from one whose label changed, has the label that it had
  pub unchanged : (g h : Ledger V P) (old new : ℕ → V) → Balanced k g old → Balanced k h new → (p : ℕ) → AgreeAt g h p →
      ((u : ℕ) (t : P) → Leads h.links u p t → old u ≡ new u) → old p ≡ new p
  unchanged g h old new a b p agree same =
      let eq = inflow_same old new g h p agree same in
      cc (a p, b p, agree.own)

  -- a place that stands is balanced as it was, so all are
  pub relabelled : (g h : Ledger V P) (e : ℕ) (old new : ℕ → V) → Balanced k g old → Edited g h e → Relabelled k h e old new → Balanced k h new
  relabelled g h e old new bal edited walk p =
      ⊎_elim (λ b. b)
      (λ (s : Stands h e old new p).
      let agree = edited p s.other in
      let eq = inflow_same old new g h p agree (λ u t m. sym (s.sources u t m)) in
      cc (bal p, agree.own, s.kept))
      (walk p)
