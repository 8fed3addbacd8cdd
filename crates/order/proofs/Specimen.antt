-- The specimen, and that the rule makes one order. Assumes nothing.
use Rattle.std.proofs.Common.{◌≡◌, ℕ, ◌+◌, ◌-◌, ◌<◌, Bool, true, false, cond, not, eqb, ◌⊎◌, ◌↔◌, List, [], ◌∷◌, ◌++◌, get_or, take, drop, filter, sym, refl, ap, ◌∙◌, subst, inl, inr, ⊎_elim, arith, lit<, lit≤, length-drop, length-take, get_or-drop, get_or-take, eqb-true}
use Rattle.std.specs.List.{ContainsAt as Has}
use Rattle.std.proofs.lemmas.Bool.{cases_Bool}
use Rattle.paths.specs.Ledger.{Path, at, over}
use Rattle.paths.specs.Ledger.{Link as Arrow}
use Rattle.paths.specs.Order.{Ranked}
use Rattle.paths.proofs.Lists.{has_none, has_first, has_later, has_cases}
use Rattle.order.specs.Admit.{Reordered}
use Rattle.order.specs.Theorems.{OneOrder, specimen_links, specimen_order, Specimen}

abbrev first : Arrow (Unit {0})
first = record { source = 0; target = 4; passage = tt }

abbrev second : Arrow (Unit {0})
second = record { source = 1; target = 3; passage = tt }

-- from place 1 paths lead to the places 1 and 3
from_one : {p : ℕ} → Path specimen_links 1 p → (p ≡ 1) ⊎ (p ≡ 3)
from_one at = inl refl
from_one (over {p} {q} π t m) =
    ⊎_elim {C = (q ≡ 1) ⊎ (q ≡ 3)}
    (λ (e : first ≡ record { source = p; target = q; passage = t }).
    let s : 0 ≡ p = ap (λ (x : Arrow (Unit {0})). x.source) e in
    absurd (⊎_elim {C = ⊥} (λ (a : p ≡ 1). omega arith) (λ (a : p ≡ 3). omega arith) (from_one π)))
    (λ m'.
    ⊎_elim {C = (q ≡ 1) ⊎ (q ≡ 3)}
    (λ (e : second ≡ record { source = p; target = q; passage = t }). inr (sym (ap (λ (x : Arrow (Unit {0})). x.target) e)))
    (λ m''. absurd (has_none _ m''))
    (has_cases [] second _ m'))
    (has_cases (second ∷ []) first _ m)

to_three : Path specimen_links 1 3
to_three = over at tt (has_later (second ∷ []) first second (has_first [] second))

abbrev by_hand : ℕ → Bool
by_hand p = cond (eqb p 1) true (eqb p 3)

by_hand_path : (p : ℕ) → by_hand p ≡ true → Path specimen_links 1 p
by_hand_path p e = go (eqb p 1) refl e
  where
    go : (b : Bool) → eqb p 1 ≡ b → cond b true (eqb p 3) ≡ true → Path specimen_links 1 p
    go true a f = subst (Path specimen_links 1) (sym (eqb-true p 1 a)) at
    go false a f = subst (Path specimen_links 1) (sym (eqb-true p 3 f)) to_three

path_by_hand : (p : ℕ) → Path specimen_links 1 p → by_hand p ≡ true
path_by_hand p π = ⊎_elim {C = by_hand p ≡ true} (λ e. ap by_hand e) (λ e. ap by_hand e) (from_one π)

told : (p : ℕ) → p < 6 → (forward : ℕ → Bool) → (forward p ≡ true → Path specimen_links 1 p) → (p ≡ 1 → ⊥) → (p ≡ 3 → ⊥) → forward p ≡ false
told p h forward reach a b = ⊎_elim {C = forward p ≡ false} (λ e. absurd (⊎_elim {C = ⊥} a b (from_one (reach e)))) (λ e. e) (cases_Bool (forward p))

new_order : (new : List ℕ) → Reordered specimen_links (λ p. p) 6 4 1 specimen_order new → new ≡ 0 ∷ 2 ∷ 4 ∷ 1 ∷ 3 ∷ 5 ∷ []
new_order new r =
    let f = r.forward in
    let one : r.forward 1 ≡ true = (r.reached 1 (lit< tt) (lit≤ tt)).1 at in
    let three : r.forward 3 ≡ true = (r.reached 3 (lit< tt) (lit≤ tt)).1 to_three in
    let two : r.forward 2 ≡ false = told 2 (lit< tt) r.forward (r.reached 2 (lit< tt) (lit≤ tt)).0 (λ e. omega arith) (λ e. omega arith) in
    let four : r.forward 4 ≡ false = told 4 (lit< tt) r.forward (r.reached 4 (lit< tt) (lit≤ tt)).0 (λ e. omega arith) (λ e. omega arith) in
    r.order ∙ simp (one, two, three, four)

pub specimen : Specimen
specimen =
    record {
      some = (0 ∷ 2 ∷ 4 ∷ 1 ∷ 3 ∷ 5 ∷ [], record { forward = by_hand; reached = λ p h l. (by_hand_path p, path_by_hand p); order = refl });
      each = λ new rank r ranked. let k = subst (Ranked rank) (new_order new r) ranked in
          (k.at 0 (lit< tt), k.at 1 (lit< tt), k.at 2 (lit< tt), k.at 3 (lit< tt), k.at 4 (lit< tt), k.at 5 (lit< tt));
    }

kept_same : (f g : ℕ → Bool) (xs : List ℕ) → ((x : ℕ) → Has xs x → f x ≡ g x) → filter f xs ≡ filter g xs
kept_same f g [] same = refl
kept_same f g (x ∷ xs) same =
    let rest = kept_same f g xs (λ y h. same y (has_later xs x y h)) in
    let here = same x (has_first xs x) in
    ap (λ (b : Bool). cond b (x ∷ filter f xs) (filter f xs)) here ∙ ap (λ (ys : List ℕ). cond (g x) (x ∷ ys) ys) rest

same_test : (a b : Bool) (P : Type 0) → (a ≡ true) ↔ P → (b ≡ true) ↔ P → a ≡ b
same_test true b P x y = sym (y.1 (x.0 refl))
same_test false true P x y = x.1 (y.0 refl)
same_test false false P x y = refl

pub one_order : (P : Type 0) → OneOrder P
one_order P links rank n u v old r len below in_v in_u turn new new' a b =
    let walk = take (rank u + 1 - rank v) (drop (rank v) old) in
    let same : (x : ℕ) → Has (take (rank u + 1 - rank v) (drop (rank v) old)) x → a.forward x ≡ b.forward x = λ x w.
    let l = length-take (rank u + 1 - rank v) (drop (rank v) old) in
    let m = length-drop (rank v) old in
    let e : get_or old (rank v + w.0) 0 ≡ x = sym (get_or-drop (rank v) old w.0 0) ∙ sym (get_or-take (rank u + 1 - rank v) (drop (rank v) old) w.0 0 (omega arith)) ∙ w.2 0 in
    let k : rank x ≡ rank v + w.0 = ap rank (sym e) ∙ r.at (rank v + w.0) (omega arith) in
    let in' : x < n = subst (λ (y : ℕ). y < n) e (below (rank v + w.0) (omega arith)) in
    same_test (a.forward x) (b.forward x) _ (a.reached x in' (omega arith)) (b.reached x in' (omega arith))
    in
    let outer = kept_same (λ p. not (a.forward p)) (λ p. not (b.forward p)) walk (λ x w. ap not (same x w)) in
    let inner = kept_same a.forward b.forward walk same in
    a.order
    ∙ ap (λ (xs : List ℕ). take (rank v) old ++ ((xs ++ filter a.forward walk) ++ drop (rank u + 1) old)) outer
    ∙ ap (λ (xs : List ℕ). take (rank v) old ++ ((filter (λ p. not (b.forward p)) walk ++ xs) ++ drop (rank u + 1) old)) inner
    ∙ sym b.order
