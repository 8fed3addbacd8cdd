-- The rule gives one order. Assumes nothing.
use Rattle.std.proofs.Common.{◌≡◌, ℕ, ◌+◌, ◌-◌, ◌<◌, ◌≤◌, min, Bool, true, false, cond, not, List, [], ◌∷◌, ◌++◌, length, get_or, take, drop, filter, sym, refl, ap, ◌∙◌, subst, ⊎_elim, arith, length-drop, length-take, get_or-drop, get_or-take}
use Rattle.std.specs.List.{ContainsAt as Has}
use Rattle.std.proofs.lemmas.Bool.{cases_lt}
use Rattle.paths.specs.Kind.{Kind}
use Rattle.paths.specs.Ledger.{Link, Ledger}
use Rattle.paths.specs.Order.{upto, rank_in, moved}
use Rattle.paths.specs.Calls.{at_first}
use Rattle.paths.proofs.Lists.{has_first, has_later}
use Rattle.law.specs.Calls.{Call, bring, own, link, unlink, label, explain, list, grant, renew, give_back, discard, accepted, Event, then}
use Rattle.law.specs.Ranks.{Reordered, LinkMoves, Shifts, Shifted, OrderFrom, OrderAfter}
use Rattle.law.proofs.Orders.{Whole, upto_whole, whole_moved}

kept_same : (a b : ℕ → Bool) (xs : List ℕ) → ((x : ℕ) → Has xs x → a x ≡ b x) → filter a xs ≡ filter b xs
kept_same a b [] all = refl
kept_same a b (x ∷ xs) all =
    let rest : filter a xs ≡ filter b xs = kept_same a b xs (λ y h. all y (has_later xs x y h)) in
    let here : a x ≡ b x = all x (has_first xs x) in
    ap (λ (t : Bool). cond t (x ∷ filter a xs) (filter a xs)) here ∙ ap (λ (r : List ℕ). cond (b x) (x ∷ r) r) rest

bools : (a b : Bool) → (a ≡ true → b ≡ true) → (b ≡ true → a ≡ true) → a ≡ b
bools true true f g = refl
bools false false f g = refl
bools true false f g = sym (f refl)
bools false true f g = g refl

-- a place that a walk meets has at most the last rank of it
walk_rank : (o : List ℕ) → Whole o → (a n p : ℕ) → Has (take n (drop a o)) p → rank_in o p < a + n
walk_rank o w a n p h =
    let len : length (take n (drop a o)) ≡ min n (length o - a) = length-take n (drop a o) ∙ ap (min n) (length-drop a o) in
    let e : get_or o (a + h.0) 0 ≡ p = sym (get_or-drop a o h.0 0) ∙ sym (get_or-take n (drop a o) h.0 0 (omega arith)) ∙ h.2 0 in
    let k : rank_in o p ≡ a + h.0 = ap (rank_in o) (sym e) ∙ w.at (a + h.0) (omega arith) in
    omega arith

module _ {P : Type 0} (links : List (Link P)) (u v : ℕ) (o : List ℕ) (w : Whole o) where
  reordered_one : rank_in o v ≤ rank_in o u → (m n : List ℕ) → Reordered links u v o m → Reordered links u v o n → m ≡ n
  reordered_one turn m n a b =
      let ru = rank_in o u in
      let rv = rank_in o v in
      let walk = take (ru + 1 - rv) (drop rv o) in
      let same : (p : ℕ) → Has walk p → a.forward p ≡ b.forward p =
      λ p h.
      let l = walk_rank o w rv (ru + 1 - rv) p h in
      let x = a.reached p (omega arith) in
      let y = b.reached p (omega arith) in
      bools (a.forward p) (b.forward p) (λ e. y.1 (x.0 e)) (λ e. x.1 (y.0 e)) in
      let outs : filter (λ p. not (a.forward p)) walk ≡ filter (λ p. not (b.forward p)) walk = kept_same (λ p. not (a.forward p)) (λ p. not (b.forward p)) walk (λ p h. ap not (same p h)) in
      let ins : filter a.forward walk ≡ filter b.forward walk = kept_same a.forward b.forward walk same in
      let all : moved a.forward rv ru o ≡ moved b.forward rv ru o =
      ap (λ (z : List ℕ). take rv o ++ ((z ++ filter a.forward walk) ++ drop (ru + 1) o)) outs ∙
      ap (λ (z : List ℕ). take rv o ++ ((filter (λ p. not (b.forward p)) walk ++ z) ++ drop (ru + 1) o)) ins in
      a.order ∙ all ∙ sym b.order

  link_one : (m n : List ℕ) → LinkMoves links u v o m → LinkMoves links u v o n → m ≡ n
  link_one m n a b =
      ⊎_elim {C = m ≡ n} (λ l. a.still l ∙ sym (b.still l)) (λ l. reordered_one l m n (a.moves l) (b.moves l)) (cases_lt (rank_in o u) (rank_in o v))

  link_whole : (m : List ℕ) → LinkMoves links u v o m → Whole m
  link_whole m a =
      ⊎_elim {C = Whole m} (λ l. subst Whole (sym (a.still l)) w)
      (λ l. let r = a.moves l in subst Whole (sym r.order) (whole_moved r.forward o (rank_in o v) (rank_in o u) l w)) (cases_lt (rank_in o u) (rank_in o v))

module _ {V P : Type 0} where
  shifts_one : (links : List (Link P)) (c : Call V P) (o m n : List ℕ) → Whole o → Shifts links c o m → Shifts links c o n → (m ≡ n) × Whole m
  shifts_one links (bring p) o m n w a b = (a ∙ sym b, subst Whole (sym a) w)
  shifts_one links (own p x room) o m n w a b = (a ∙ sym b, subst Whole (sym a) w)
  shifts_one links (link u v t room) o m n w a b = (link_one links u v o w m n a b, link_whole links u v o w m a)
  shifts_one links (unlink u v room) o m n w a b = (a ∙ sym b, subst Whole (sym a) w)
  shifts_one links (label p) o m n w a b = (a ∙ sym b, subst Whole (sym a) w)
  shifts_one links (explain p d room) o m n w a b = (a ∙ sym b, subst Whole (sym a) w)
  shifts_one links (list d room) o m n w a b = (a ∙ sym b, subst Whole (sym a) w)
  shifts_one links (grant p d) o m n w a b = (a ∙ sym b, subst Whole (sym a) w)
  shifts_one links (renew p d day) o m n w a b = (a ∙ sym b, subst Whole (sym a) w)
  shifts_one links (give_back p d) o m n w a b = (a ∙ sym b, subst Whole (sym a) w)
  shifts_one links (discard p d) o m n w a b = (a ∙ sym b, subst Whole (sym a) w)

  shifted_one : (links : List (Link P)) (c : Call V P) (t : Bool) (o m n : List ℕ) → Whole o → Shifted links c t o m → Shifted links c t o n → (m ≡ n) × Whole m
  shifted_one links c true o m n w a b = shifts_one links c o m n w a b
  shifted_one links c false o m n w a b = (a ∙ sym b, subst Whole (sym a) w)

  from_one : (k : Kind V P) (g : Ledger V P) (o : List ℕ) (es : List (Event V P)) (m n : List ℕ) → Whole o → OrderFrom k g o es m → OrderFrom k g o es n → m ≡ n
  from_one k g o [] m n w a b = a ∙ sym b
  from_one k g o (e ∷ es) m n w a b =
      let s = shifted_one g.links e.0 (accepted e.1) o a.0 b.0 w a.1 b.1 in
      from_one k (then k g e) a.0 es m n s.1 a.2 (subst (λ (z : List ℕ). OrderFrom k (then k g e) z es n) (sym s.0) b.2)

  pub order_one : (k : Kind V P) (n : ℕ) (es : List (Event V P)) (o o' : List ℕ) → OrderAfter k n es o → OrderAfter k n es o' → o ≡ o'
  order_one k n es o o' a b = from_one k (at_first k) (upto n) es o o' (upto_whole n) a b
