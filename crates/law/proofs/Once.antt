-- The law leaves an edit one answer. Assumes nothing.
use Rattle.std.proofs.Common.{◌≡◌, ℕ, Bool, List, [], ◌∷◌, ◌++◌, length, sym, ap, ◌∙◌, subst, inl, inr}
use Rattle.paths.specs.Kind.{Kind, Laws}
use Rattle.paths.specs.Ledger.{Ledger, IsJoin}
use Rattle.paths.specs.Order.{upto, rank_in}
use Rattle.paths.specs.Calls.{at_first}
use Rattle.paths.specs.Reports.{Changed, Reported, IsReport, Number}
use Rattle.paths.proofs.Joins.{join_unique}
use Rattle.paths.proofs.Numbers.{report_one, number_one}
use Rattle.law.specs.Calls.{Call, edited, Event, then, ledger_after}
use Rattle.law.specs.Ranks.{OrderFrom}
use Rattle.law.specs.Law.{Told}
use Rattle.law.proofs.Ledgers.{ledger_push}
use Rattle.law.proofs.Rule.{order_one}

changed_on : {V : Type 0} (old new old' new' : ℕ → V) → ((p : ℕ) → old p ≡ old' p) → ((p : ℕ) → new p ≡ new' p) → (p : ℕ) → Changed old new p → Changed old' new' p
changed_on old new old' new' a b p c e = c (b p ∙ e ∙ sym (a p))

number_on : {V : Type 0} (old new old' new' : ℕ → V) (n : ℕ) → ((p : ℕ) → old p ≡ old' p) → ((p : ℕ) → new p ≡ new' p) → Number (Changed old new) n → Number (Changed old' new') n
number_on old new old' new' n a b r =
    record {
      all = r.all;
      those = λ p. (λ i. changed_on old new old' new' a b p ((r.those p).0 i), λ x. (r.those p).1 (changed_on old' new' old new (λ q. sym (a q)) (λ q. sym (b q)) p x));
      once = r.once;
      size = r.size;
    }

module _ {V P : Type 0} where
  order_same : (k : Kind V P) (g : Ledger V P) (o : List ℕ) (es : List (Event V P)) (c : Call V P) (ps qs : List ℕ) (i i' j j' : ℕ) (n : List ℕ) →
      OrderFrom k g o (es ++ ((c, edited ps i j) ∷ [])) n → OrderFrom k g o (es ++ ((c, edited qs i' j') ∷ [])) n
  order_same k g o [] c ps qs i i' j j' n h = h
  order_same k g o (x ∷ es) c ps qs i i' j j' n h = (h.0, h.1, order_same k (then k g x) h.0 es c ps qs i i' j j' n h.2)

  module _ (old new old' new' : ℕ → V) (a : (p : ℕ) → old p ≡ old' p) (b : (p : ℕ) → new p ≡ new' p) where
    reported_on : (h : Ledger V P) (e p : ℕ) → Reported h e old new p → Reported h e old' new' p
    reported_on h e p (inl i) = inl i
    reported_on h e p (inr (q, t, m, c)) = inr (q, t, m, changed_on old new old' new' a b q c)

  report_on : (h : Ledger V P) (e : ℕ) (old new old' new' : ℕ → V) (rank : ℕ → ℕ) (ps : List ℕ) → ((p : ℕ) → old p ≡ old' p) → ((p : ℕ) → new p ≡ new' p) →
      IsReport h e old new rank ps → IsReport h e old' new' rank ps
  report_on h e old new old' new' rank ps a b r =
      record {
        those = λ p. (λ i. reported_on old new old' new' a b h e p ((r.those p).0 i), λ x. (r.those p).1 (reported_on old' new' old new (λ q. sym (a q)) (λ q. sym (b q)) h e p x));
        rising = r.rising;
      }

  pub told_one : {k : Kind V P} → Laws k → (free : ℕ → V → Bool) (n m : ℕ) (es : List (Event V P)) (c : Call V P) (e : ℕ) (ps qs : List ℕ) (i i' j j' : ℕ) →
      Told k free n m es (es ++ ((c, edited ps i j) ∷ [])) e ps i j → Told k free n m es (es ++ ((c, edited qs i' j') ∷ [])) e qs i' j' → (ps ≡ qs) × (i ≡ i') × (j ≡ j')
  told_one {k} laws free n m es c e ps qs i i' j j' a b =
      let h : ledger_after k (es ++ ((c, edited qs i' j') ∷ [])) ≡ ledger_after k (es ++ ((c, edited ps i j) ∷ [])) =
      ledger_push k (at_first k) es (c, edited qs i' j') ∙ sym (ledger_push k (at_first k) es (c, edited ps i j)) in
      let H = ledger_after k (es ++ ((c, edited ps i j) ∷ [])) in
      let was : (p : ℕ) → b.old p ≡ a.old p = λ p. join_unique laws (ledger_after k es) p _ _ (b.was p) (a.was p) in
      let is : (p : ℕ) → b.new p ≡ a.new p = λ p. join_unique laws H p _ _ (subst (λ (g : Ledger V P). IsJoin k g p (b.new p)) h (b.is p)) (a.is p) in
      let order : b.order ≡ a.order =
      order_one k n (es ++ ((c, edited ps i j) ∷ [])) b.order a.order (order_same k (at_first k) (upto n) es c qs ps i' i j' j b.order b.rule) a.rule in
      let r : IsReport H e b.old b.new (rank_in a.order) qs =
      subst (λ (o : List ℕ). IsReport H e b.old b.new (rank_in o) qs) order
      (subst (λ (g : Ledger V P). IsReport g e b.old b.new (rank_in b.order) qs) h b.report) in
      let same : ps ≡ qs = report_one H e a.old a.new (rank_in a.order) ps qs a.report (report_on H e b.old b.new a.old a.new (rank_in a.order) qs was is r) in
      let count : j ≡ j' = number_one (Changed a.old a.new) j j' a.second (number_on b.old b.new a.old a.new j' was is b.second) in
      (same, a.first ∙ ap length same ∙ sym b.first, count)
