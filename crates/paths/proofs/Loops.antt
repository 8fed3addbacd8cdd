-- A label gathered by going over the links. Assumes nothing.
use Rattle.std.proofs.Common.{◌≡◌, ℕ, ◌+◌, ◌<◌, Bool, true, false, cond, eqb, List, [], ◌∷◌, ◌++◌, length, get_or, take, sym, ap, ◌∙◌, eq-eqb, ne_eqb}
use Rattle.std.proofs.lemmas.List.{take_more}
use Rattle.paths.specs.Kind.{Kind, Laws}
use Rattle.paths.specs.Ledger.{Link}
use Rattle.paths.specs.Equations.{inflow}
use Rattle.paths.proofs.Within.{unit_right}

module _ {V P : Type 0} {k : Kind V P} (laws : Laws k) where
  -- what was gathered, joined with what the link brings to p
  abbrev pub taken : (ℕ → V) → ℕ → V → Link P → V
  taken label p gathered l = cond (eqb l.target p) (k.join gathered (k.carry l.passage (label l.source))) gathered

  one_more : (b : Bool) (c r i x : V) → r ≡ k.join i x → cond b (k.join c r) r ≡ k.join (cond b (k.join c i) i) x
  one_more true c r i x e = cc (laws.group c i x)
  one_more false c r i x e = e

  inflow_snoc : (label : ℕ → V) (p : ℕ) (ls : List (Link P)) (l : Link P) → inflow k label p (ls ++ (l ∷ [])) ≡ k.join (inflow k label p ls) (inflow k label p (l ∷ []))
  inflow_snoc label p [] l = sym (laws.unit _)
  inflow_snoc label p (m ∷ ls) l = one_more (eqb m.target p) _ _ _ _ (inflow_snoc label p ls l)

  last_one : (b : Bool) (own i c : V) → cond b (k.join (k.join own i) c) (k.join own i) ≡ k.join own (k.join i (cond b (k.join c k.empty) k.empty))
  last_one true own i c = cc (laws.group own i c, unit_right laws c)
  last_one false own i c = cc (unit_right laws i)

  pub inflow_push : (label : ℕ → V) (p : ℕ) (own : V) (ls : List (Link P)) (l : Link P) →
      taken label p (k.join own (inflow k label p ls)) l ≡ k.join own (inflow k label p (ls ++ (l ∷ [])))
  inflow_push label p own ls l = last_one (eqb l.target p) own _ _ ∙ ap (k.join own) (sym (inflow_snoc label p ls l))

  pub inflow_more : (label : ℕ → V) (p : ℕ) (own acc : V) (ls : List (Link P)) (i : ℕ) (d : Link P) → i < length ls →
      acc ≡ k.join own (inflow k label p (take i ls)) →
      taken label p acc (get_or ls i d) ≡ k.join own (inflow k label p (take (i + 1) ls))
  inflow_more label p own acc ls i d h e =
      rw (e, take_more ls i d h) (inflow_push label p own (take i ls) (get_or ls i d))

  pub taken_hit : (label : ℕ → V) (p : ℕ) (acc : V) (l : Link P) → l.target ≡ p → k.join acc (k.carry l.passage (label l.source)) ≡ taken label p acc l
  taken_hit label p acc l e = rw (eq-eqb l.target p e)

  pub taken_miss : (label : ℕ → V) (p : ℕ) (acc : V) (l : Link P) → (l.target ≡ p → ⊥) → acc ≡ taken label p acc l
  taken_miss label p acc l n = rw (ne_eqb l.target p n)
