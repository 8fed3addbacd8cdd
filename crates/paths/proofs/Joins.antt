-- A balanced labelling over links that rise is the join over all paths. Assumes nothing.
use Rattle.std.proofs.Common.{◌≡◌, ℕ, zero, suc, ◌<◌, eqb, List, [], ◌∷◌, sym, ap, subst, ⊎_elim, not-suc-le-zero, arith}
use Rattle.std.proofs.lemmas.Bool.{cond_both, eqb-true, eqb-false}
use Rattle.paths.specs.Kind.{Kind, Laws, Within}
use Rattle.paths.specs.Ledger.{Link, Ledger, Leads, Path, at, over, contribution, IsJoin, AreJoins}
use Rattle.paths.specs.Equations.{inflow, Balanced, Topological}
use Rattle.paths.proofs.Lists.{has_none, has_first, has_later, has_cases}
use Rattle.paths.proofs.Within.{within_trans, within_both, within_join, within_left, within_right, within_carry}

module _ {V P : Type 0} {k : Kind V P} (laws : Laws k) where
  -- what holds of the empty value, of a join of two and of what each link into p carries holds of what they bring together
  pub inflow_ind : (label : ℕ → V) (p : ℕ) (Q : V → Type 0) → Q k.empty → ((x y : V) → Q x → Q y → Q (k.join x y)) →
      (ls : List (Link P)) → ((q : ℕ) (t : P) → Leads ls q p t → Q (k.carry t (label q))) → Q (inflow k label p ls)
  inflow_ind label p Q e j [] all = e
  inflow_ind label p Q e j (l ∷ ls) all =
      let rest : Q (inflow k label p ls) = inflow_ind label p Q e j ls (λ q t h. all q t (has_later ls l _ h)) in
      cond_both (eqb l.target p) _ _ Q
      (λ b. j _ _ (all l.source l.passage (rw (← eqb-true l.target p b) (has_first ls l))) rest)
      (λ b. rest)

  pub inflow_takes : (label : ℕ → V) (p q : ℕ) (t : P) (ls : List (Link P)) → Leads ls q p t → Within k (k.carry t (label q)) (inflow k label p ls)
  inflow_takes label p q t [] h = absurd (has_none _ h)
  inflow_takes label p q t (l ∷ ls) h =
      ⊎_elim
      (λ e.
      cond_both (eqb l.target p) _ _ (Within k (k.carry t (label q)))
      (λ b.
      subst (λ x. Within k x (k.join (k.carry l.passage (label l.source)) (inflow k label p ls)))
      (ap (λ (m : Link P). k.carry m.passage (label m.source)) e) (within_left laws _ _))
      (λ b. absurd (eqb-false l.target p b (ap (λ (m : Link P). m.target) e))))
      (λ m.
      let rest : Within k (k.carry t (label q)) (inflow k label p ls) = inflow_takes label p q t ls m in
      cond_both (eqb l.target p) _ _ (Within k (k.carry t (label q)))
      (λ b. within_trans laws _ _ _ rest (within_right laws _ _))
      (λ b. rest))
      (has_cases ls l _ h)

  -- over rising links, what holds of the empty label and of joins, and of what each path into p contributes, holds of the label of p
  pub path_ind : (g : Ledger V P) (rank : ℕ → ℕ) (label : ℕ → V) → Topological rank g.links → Balanced k g label →
      (n p : ℕ) → rank p < n → (Q : V → Type 0) → Q k.empty → ((x y : V) → Q x → Q y → Q (k.join x y)) →
      ((u : ℕ) (π : Path g.links u p) → Q (contribution k g π)) → Q (label p)
  path_ind g rank label up bal zero p h Q e j all = absurd (not-suc-le-zero h)
  path_ind g rank label up bal (suc n) p h Q e j all =
      subst Q (sym (bal p))
      (j _ _ (all p at)
      (inflow_ind label p Q e j g.links
      (λ q t m.
      let lower = up q p t m in
      path_ind g rank label up bal n q (omega arith) (λ x. Q (k.carry t x))
      (subst Q (sym (laws.carry_empty t)) e)
      (λ x y a b. subst Q (sym (laws.carry_join t x y)) (j _ _ a b))
      (λ u π. all u (over π t m)))))

  path_within : (g : Ledger V P) (label : ℕ → V) → Balanced k g label → {u p : ℕ} (π : Path g.links u p) → Within k (contribution k g π) (label p)
  path_within g label bal {u} at = rw (bal u) (within_left laws _ _)
  path_within g label bal (over {p} {q} π t m) =
      let lower = path_within g label bal π in
      rw (bal q)
      (within_trans laws _ _ _ (within_carry laws t _ _ lower)
      (within_trans laws _ _ _ (inflow_takes label q p t g.links m) (within_right laws _ _)))

  pub fixed_is_join : (g : Ledger V P) (rank : ℕ → ℕ) (label : ℕ → V) → Topological rank g.links → Balanced k g label → AreJoins k g label
  fixed_is_join g rank label up bal p =
      record {
        covers = λ u π. path_within g label bal π;
        least = λ m all. path_ind g rank label up bal (suc (rank p)) p (omega arith) (λ x. Within k x m) (laws.unit m) (λ x y. within_join laws x y m) all;
      }

  pub join_unique : (g : Ledger V P) (p : ℕ) (l m : V) → IsJoin k g p l → IsJoin k g p m → l ≡ m
  join_unique g p l m a b = within_both laws l m (a.least m b.covers) (b.least l a.covers)
