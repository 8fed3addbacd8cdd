-- Ledgers that say the same, and histories that grow at the end. Assumes nothing.
use Rattle.std.proofs.Common.{◌≡◌, ℕ, suc, Bool, true, false, cond, not, ◌&&◌, eqb, ◌⊎◌, ◌↔◌, List, [], ◌∷◌, ◌++◌, length, filter, sym, refl, ap, ◌∙◌, subst, inl, inr, ⊎_elim, arith}
use borrow.Author.Tests.{both_ways}
use Rattle.paths.specs.Kind.{Kind}
use Rattle.paths.specs.Ledger.{Link, Ledger, Leads, Path, at, over}
use Rattle.paths.specs.Edits.{AgreeAt}
use Rattle.paths.specs.Calls.{put, joins, enters}
use Rattle.paths.proofs.Lists.{has_first, has_later, has_cases, has_kept}
use Rattle.law.specs.Calls.{Call, bring, own, link, unlink, label, explain, list, grant, renew, give_back, discard, accepted, Event, fed, then, ledger_from, permit_from, Permit, hands}
use Rattle.law.specs.Ranks.{Shifted, Shifts, OrderFrom}
use Rattle.law.specs.State.{Same}

pub is_true : (b : Bool) → (b ≡ false → ⊥) → b ≡ true
is_true true h = refl
is_true false h = absurd (h refl)

pub is_true_too : (b : Bool) → ((b ≡ true → ⊥) → ⊥) → b ≡ true
is_true_too b h = is_true b (λ e. h (both_ways b e))

pub path_on : {P : Type 0} {ls ms : List (Link P)} → ((u v : ℕ) (t : P) → Leads ls u v t → Leads ms u v t) → {u p : ℕ} → Path ls u p → Path ms u p
path_on f at = at
path_on f (over {p} {q} π t m) = over (path_on f π) t (f p q t m)

module _ {V P : Type 0} where
  pub same_refl : (g : Ledger V P) → Same g g
  same_refl g = record { present = λ p. refl; own = λ p. refl; links = λ u v t. (λ m. m, λ m. m); number = λ test. refl }

  pub same_sym : {g h : Ledger V P} → Same g h → Same h g
  same_sym s = record { present = λ p. sym (s.present p); own = λ p. sym (s.own p); links = λ u v t. ((s.links u v t).1, (s.links u v t).0); number = λ test. sym (s.number test) }

  pub same_on : {f g h : Ledger V P} → Same f g → Same g h → Same f h
  same_on a b =
      record {
        present = λ p. a.present p ∙ b.present p;
        own = λ p. a.own p ∙ b.own p;
        links = λ u v t. (λ m. (b.links u v t).0 ((a.links u v t).0 m), λ m. (a.links u v t).1 ((b.links u v t).1 m));
        number = λ test. a.number test ∙ b.number test;
      }

  pub same_agrees : {g h : Ledger V P} → Same g h → (p : ℕ) → AgreeAt g h p
  same_agrees s p = record { own = s.own p; links = λ u t. s.links u p t }

put_same : {X : Type 0} (f g : ℕ → X) (e : ℕ) (x : X) → ((p : ℕ) → f p ≡ g p) → (p : ℕ) → put f e x p ≡ put g e x p
put_same f g e x all p = ap (cond (eqb p e) x) (all p)

kept_twice : {X : Type 0} (a b : X → Bool) (xs : List X) → filter a (filter b xs) ≡ filter (λ x. b x && a x) xs
kept_twice a b [] = refl
kept_twice a b (x ∷ xs) = go (b x) (kept_twice a b xs)
  where
    go : (t : Bool) → filter a (filter b xs) ≡ filter (λ x. b x && a x) xs →
        filter a (cond t (x ∷ filter b xs) (filter b xs)) ≡ cond (t && a x) (x ∷ filter (λ x. b x && a x) xs) (filter (λ x. b x && a x) xs)
    go true e = ap (λ r. cond (a x) (x ∷ r) r) e
    go false e = e

kept_all : {X : Type 0} (xs : List X) → filter (λ x. true) xs ≡ xs
kept_all [] = refl
kept_all (x ∷ xs) = ap (λ r. x ∷ r) (kept_all xs)

cons_number : {X : Type 0} (b : Bool) (x : X) (xs ys : List X) → length xs ≡ length ys → length (cond b (x ∷ xs) xs) ≡ length (cond b (x ∷ ys) ys)
cons_number true x xs ys e = ap suc e
cons_number false x xs ys e = e

module _ {V P : Type 0} {g h : Ledger V P} (s : Same g h) where
  pub same_size : length g.links ≡ length h.links
  same_size = ap length (sym (kept_all g.links)) ∙ s.number (λ l. true) ∙ ap length (kept_all h.links)

  kept_links : (test : Link P → Bool) (u v : ℕ) (t : P) → Leads (filter test g.links) u v t ↔ Leads (filter test h.links) u v t
  kept_links test u v t = (
    λ m. let i = (has_kept test g.links _).0 m in (has_kept test h.links _).1 ((s.links u v t).0 i.0, i.1),
    λ m. let i = (has_kept test h.links _).0 m in (has_kept test g.links _).1 ((s.links u v t).1 i.0, i.1),
  )

  kept_number : (test : Link P → Bool) (a : Link P → Bool) → length (filter a (filter test g.links)) ≡ length (filter a (filter test h.links))
  kept_number test a = ap length (kept_twice a test g.links) ∙ s.number (λ x. test x && a x) ∙ ap length (sym (kept_twice a test h.links))

  pub same_fed : (k : Kind V P) (c : Call V P) → Same (fed k g c) (fed k h c)
  same_fed k (bring p) = record { present = put_same _ _ p true s.present; own = s.own; links = s.links; number = s.number }
  same_fed k (own p x room) = record { present = s.present; own = put_same _ _ p x s.own; links = s.links; number = s.number }
  same_fed k (link u v t room) =
      record {
        present = s.present;
        own = s.own;
        links = λ a b y. (
          λ m. ⊎_elim {C = Leads (_ ∷ h.links) a b y} (λ e. rw (← e) (has_first h.links _)) (λ i. has_later h.links _ _ ((s.links a b y).0 i)) (has_cases g.links _ _ m),
          λ m. ⊎_elim {C = Leads (_ ∷ g.links) a b y} (λ e. rw (← e) (has_first g.links _)) (λ i. has_later g.links _ _ ((s.links a b y).1 i)) (has_cases h.links _ _ m),
        );
        number = λ test. cons_number (test (record { source = u; target = v; passage = t })) _ _ _ (s.number test);
      }
  same_fed k (unlink u v room) = record { present = s.present; own = s.own; links = kept_links (λ l. not (joins u v l)); number = kept_number (λ l. not (joins u v l)) }
  same_fed k (label p) = s
  same_fed k (explain p d room) = s
  same_fed k (list d room) = s
  same_fed k (grant p d) = s
  same_fed k (renew p d new) = s
  same_fed k (give_back p d) = s
  same_fed k (discard p d) =
      record {
        present = put_same _ _ p false s.present;
        own = put_same _ _ p k.empty s.own;
        links = kept_links (λ l. not (enters p l));
        number = kept_number (λ l. not (enters p l));
      }

  pub same_path : {u p : ℕ} → Path g.links u p → Path h.links u p
  same_path π = path_on (λ u v t. (s.links u v t).0) π

-- what a call makes of the order is the same by either ledger
pub same_shifts : {V P : Type 0} {g h : Ledger V P} → Same g h → (c : Call V P) (o n : List ℕ) → Shifts g.links c o n → Shifts h.links c o n
same_shifts s (bring p) o n x = x
same_shifts s (own p y room) o n x = x
same_shifts s (link u v t room) o n x =
    record {
      still = x.still;
      moves = λ l.
          let r = x.moves l in
          record {
            forward = r.forward;
            reached = λ p i. let b = r.reached p i in (λ e. same_path s (b.0 e), λ π. b.1 (same_path (same_sym s) π));
            order = r.order;
          };
    }
same_shifts s (unlink u v room) o n x = x
same_shifts s (label p) o n x = x
same_shifts s (explain p d room) o n x = x
same_shifts s (list d room) o n x = x
same_shifts s (grant p d) o n x = x
same_shifts s (renew p d new) o n x = x
same_shifts s (give_back p d) o n x = x
same_shifts s (discard p d) o n x = x

module _ {V P : Type 0} (k : Kind V P) where
  pub ledger_push : (g : Ledger V P) (es : List (Event V P)) (e : Event V P) → ledger_from k g (es ++ (e ∷ [])) ≡ then k (ledger_from k g es) e
  ledger_push g [] e = refl
  ledger_push g (x ∷ es) e = ledger_push (then k g x) es e

  pub order_push : (g : Ledger V P) (o : List ℕ) (es : List (Event V P)) (e : Event V P) (m n : List ℕ) → OrderFrom k g o es m →
      Shifted (ledger_from k g es).links e.0 (accepted e.1) m n → OrderFrom k g o (es ++ (e ∷ [])) n
  order_push g o [] e m n h x = (n, subst (λ z. Shifted g.links e.0 (accepted e.1) z n) h x, refl)
  order_push g o (y ∷ es) e m n h x = (h.0, h.1, order_push (then k g y) h.0 es e m n h.2 x)

pub permit_push : {V P : Type 0} (x : Permit) (es : List (Event V P)) (e : Event V P) →
    permit_from x (es ++ (e ∷ [])) ≡ cond (accepted e.1) (hands (permit_from x es) e.0) (permit_from x es)
permit_push x [] e = refl
permit_push x (y ∷ es) e = permit_push (cond (accepted y.1) (hands x y.0) x) es e

-- where a history that ends with x is cut at y: y is x, or stands before it
pub split_last : {X : Type 0} (es before after : List X) (x y : X) → es ++ (x ∷ []) ≡ before ++ (y ∷ after) →
    ((before ≡ es) × (y ≡ x)) ⊎ ((rest : List X) × (es ≡ before ++ (y ∷ rest)))
split_last [] [] after x y e = inl (refl, cc)
split_last [] (b ∷ []) after x y e = let z = ap length e in absurd (omega arith)
split_last [] (b ∷ d ∷ bs) after x y e = let z = ap length e in absurd (omega arith)
split_last (a ∷ es) [] after x y e = inr (es, cc)
split_last (a ∷ es) (b ∷ bs) after x y e =
    let q : a ≡ b = cc in
    let t : es ++ (x ∷ []) ≡ bs ++ (y ∷ after) = cc in
    ⊎_elim (λ r. let i = r.0 in inl (cc, r.1)) (λ r. let i = r.1 in inr (r.0, cc)) (split_last es bs after x y t)
