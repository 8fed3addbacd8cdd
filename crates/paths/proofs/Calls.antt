-- What each accepted call does to the ledger, and what it leaves. Assumes nothing.
use Rattle.std.proofs.Common.{◌≡◌, ℕ, ◌<◌, Bool, true, cond, not, eqb, ◌⊎◌, ◌↔◌, List, [], ◌∷◌, ◌++◌, filter, sym, refl, ap, subst, inl, inr, ⊎_elim}
use Rattle.std.specs.List.{ContainsAt as Has}
use Rattle.std.proofs.lemmas.Bool.{both_ways, cases_Bool, cases_eq, eqb-true, eq-eqb, ne_eqb, not-true, not_from_false, and_parts, and_from, cond-true, cond-false}
use Rattle.paths.specs.Kind.{Kind, Laws}
use Rattle.paths.specs.Ledger.{Link, Ledger, Leads, OneEach, AreJoins}
use Rattle.paths.specs.Equations.{inflow, Balanced, BalancedAt, Topological}
use Rattle.paths.specs.Edits.{Edited, Stands}
use Rattle.paths.specs.Calls.{Call, bring, own, link, unlink, discard, put, next, at_first, after}
use Rattle.paths.specs.Theorems.{FirstLedger}
use Rattle.paths.proofs.Lists.{has_none, has_first, has_later, has_cases, has_kept}
use Rattle.paths.proofs.Joins.{inflow_ind, fixed_is_join}
use Rattle.paths.proofs.Exists.{joins_balance, join_agree}
use Rattle.paths.proofs.Edits.{relabelled}

pub put_other : {X : Type 0} (f : ℕ → X) (e : ℕ) (x : X) (p : ℕ) → ¬ (p ≡ e) → f p ≡ put f e x p
put_other f e x p n = sym (cond-false (eqb p e) x (f p) (ne_eqb p e n))

pub put_there : {X : Type 0} (f : ℕ → X) (e : ℕ) (x : X) → put f e x e ≡ x
put_there f e x = cond-true (eqb e e) x (f e) (eq-eqb e e refl)

pub put_both : {X : Type 0} (f : ℕ → X) (e : ℕ) (x : X) → (put f e x e ≡ x) × ((q : ℕ) → ¬ (q ≡ e) → put f e x q ≡ f q)
put_both f e x = (put_there f e x, λ q n. sym (put_other f e x q n))

-- a link is kept by a test exactly when it is not one that the opposite test tells
kept_iff : {P : Type 0} (test : Link P → Bool) (links : List (Link P)) (l : Link P) (A : Type 0) → (test l ≡ true → A) → (A → test l ≡ true) →
    Has (filter (λ m. not (test m)) links) l ↔ (Has links l × ¬ A)
kept_iff test links l A to from = (
  λ h. let r = (has_kept (λ m. not (test m)) links l).0 h in (r.0, λ a. both_ways _ (not-true _ r.1) (from a)),
  λ h. (has_kept (λ m. not (test m)) links l).1 (h.0, not_from_false _ (⊎_elim (λ e. absurd (h.1 (to e))) (λ e. e) (cases_Bool (test l)))),
)

-- what holds of each link holds of each that is kept
pub kept_each : {P : Type 0} (Q : ℕ → ℕ → P → Type 0) (test : Link P → Bool) (links : List (Link P)) → ((u v : ℕ) (t : P) → Leads links u v t → Q u v t) →
    (u v : ℕ) (t : P) → Leads (filter test links) u v t → Q u v t
kept_each Q test links all u v t m = all u v t ((has_kept test links _).0 m).0

pub kept_one : {P : Type 0} (test : Link P → Bool) (links : List (Link P)) → OneEach links → OneEach (filter test links)
kept_one test links one u v t s m n = one u v t s ((has_kept test links _).0 m).0 ((has_kept test links _).0 n).0

module _ {V P : Type 0} (k : Kind V P) where
  pub linked : (g : Ledger V P) (u v : ℕ) (t : P) (a b : ℕ) (s : P) → Leads (next k g (link u v t)).links a b s ↔ (((a ≡ u) × (b ≡ v) × (s ≡ t)) ⊎ Leads g.links a b s)
  linked g u v t a b s = (
    λ h. ⊎_elim (λ e. inl (ap (λ (l : Link P). l.source) (sym e), ap (λ (l : Link P). l.target) (sym e), ap (λ (l : Link P). l.passage) (sym e))) inr (has_cases g.links _ _ h),
    ⊎_elim
        (λ e. let same : ◌≡◌ {A = Link P} (record { source = u; target = v; passage = t }) (record { source = a; target = b; passage = s }) = cc in subst (Has (next k g (link u v t)).links) same (has_first g.links _))
        (has_later g.links _ _),
  )

  pub unlinked : (g : Ledger V P) (u v a b : ℕ) (s : P) → Leads (next k g (unlink u v)).links a b s ↔ (Leads g.links a b s × ¬ ((a ≡ u) × (b ≡ v)))
  unlinked g u v a b s =
      kept_iff _ g.links _ ((a ≡ u) × (b ≡ v)) (λ e. let both = and_parts (eqb a u) (eqb b v) e in (eqb-true a u both.0, eqb-true b v both.1))
      (λ h. and_from (eqb a u) (eqb b v) (eq-eqb a u h.0) (eq-eqb b v h.1))

  pub cut : (g : Ledger V P) (p a b : ℕ) (s : P) → Leads (next k g (discard p)).links a b s ↔ (Leads g.links a b s × ¬ (b ≡ p))
  cut g p a b s = kept_iff _ g.links _ (b ≡ p) (eqb-true b p) (eq-eqb b p)

  pub fed : (g : Ledger V P) (cs : List (Call V P × Bool)) (c : Call V P) (accepted : Bool) →
      after k g (cs ++ ((c, accepted) ∷ [])) ≡ cond accepted (next k (after k g cs) c) (after k g cs)
  fed g [] c accepted = refl
  fed g (x ∷ cs) c accepted = fed (cond x.1 (next k g x.0) g) cs c accepted

  -- and what holds of a new link too holds of each after it is added
  pub link_each : (Q : ℕ → ℕ → P → Type 0) (g : Ledger V P) (u v : ℕ) (t : P) → Q u v t → ((a b : ℕ) (s : P) → Leads g.links a b s → Q a b s) →
      (a b : ℕ) (s : P) → Leads (next k g (link u v t)).links a b s → Q a b s
  link_each Q g u v t here all a b s m = ⊎_elim (λ e. rw (e.0, e.1, e.2) here) (all a b s) ((linked g u v t a b s).0 m)

  pub link_one : (g : Ledger V P) (u v : ℕ) (t : P) → ((s : P) → Leads g.links u v s → ⊥) → OneEach g.links → OneEach (next k g (link u v t)).links
  link_one g u v t new one a b s r m n = go ((linked g u v t a b s).0 m) ((linked g u v t a b r).0 n)
    where
      other : (x : P) → a ≡ u → b ≡ v → Leads g.links a b x → ⊥
      other x p q i = new x (subst (λ c. Leads g.links c v x) p (subst (λ c. Leads g.links a c x) q i))

      go : ((a ≡ u) × (b ≡ v) × (s ≡ t)) ⊎ Leads g.links a b s → ((a ≡ u) × (b ≡ v) × (r ≡ t)) ⊎ Leads g.links a b r → s ≡ r
      go (inl x) (inl y) = cc
      go (inl x) (inr j) = absurd (other r x.0 x.1 j)
      go (inr i) (inl y) = absurd (other s y.0 y.1 i)
      go (inr i) (inr j) = one a b s r i j

  pub own_edits : (g : Ledger V P) (e : ℕ) (x : V) → Edited g (next k g (own e x)) e
  own_edits g e x p n = record { own = put_other g.own e x p n; links = λ u t. (λ m. m, λ m. m) }

  pub link_edits : (g : Ledger V P) (u e : ℕ) (t : P) → Edited g (next k g (link u e t)) e
  link_edits g u e t p n =
      record { own = refl; links = λ v s. (λ m. (linked g u e t v p s).1 (inr m), λ m. ⊎_elim (λ q. absurd (n q.1)) (λ i. i) ((linked g u e t v p s).0 m)) }

  pub unlink_edits : (g : Ledger V P) (u e : ℕ) → Edited g (next k g (unlink u e)) e
  unlink_edits g u e p n = record { own = refl; links = λ v t. (λ m. (unlinked g u e v p t).1 (m, λ q. n q.1), λ m. ((unlinked g u e v p t).0 m).0) }

  discard_edits : (g : Ledger V P) (e : ℕ) → Edited g (next k g (discard e)) e
  discard_edits g e p n = record { own = put_other g.own e k.empty p n; links = λ v t. (λ m. (cut g e v p t).1 (m, n), λ m. ((cut g e v p t).0 m).0) }

  module _ (laws : Laws k) where
    pub first_ledger : FirstLedger k
    first_ledger =
        record {
          joins = fixed_is_join laws (at_first k) (λ p. p) (λ p. k.empty) (λ u v t m. absurd (has_none _ m)) (λ p. sym (laws.unit k.empty));
          rises = λ rank u v t m. absurd (has_none _ m);
          inside = λ n u v t m. absurd (has_none _ m);
          one = λ u v t s m n. absurd (has_none _ m);
        }

    -- where no link leaves e, a discard of e empties its label and leaves the others
    pub discard_balances : (g : Ledger V P) (e : ℕ) (label : ℕ → V) → Balanced k g label → ((v : ℕ) (t : P) → Leads g.links e v t → ⊥) →
        Balanced k (next k g (discard e)) (put label e k.empty)
    discard_balances g e label bal none = relabelled laws g after e label new bal (discard_edits g e) (λ p. ⊎_elim (λ q. inl (here p q)) (λ n. inr (other p n)) (cases_eq p e))
      where
        after : Ledger V P
        after = next k g (discard e)

        new : ℕ → V
        new = put label e k.empty

        here : (p : ℕ) → p ≡ e → BalancedAt k after new p
        here p q =
            let nothing : inflow k new p after.links ≡ k.empty =
            inflow_ind laws new p (λ x. x ≡ k.empty) refl (λ x y a c. cc (laws.unit k.empty)) after.links (λ v t m. absurd (((cut g e v p t).0 m).1 q)) in
            cc (put_there label e k.empty, put_there g.own e k.empty, laws.unit k.empty)

        other : (p : ℕ) → ¬ (p ≡ e) → Stands after e label new p
        other p n =
            record {
              kept = sym (put_other label e k.empty p n);
              other = n;
              sources = λ u t m. sym (put_other label e k.empty u (λ q. none p t (subst (λ w. Leads g.links w p t) q ((cut g e u p t).0 m).0)));
            }

    pub bring_keeps : (g : Ledger V P) (p : ℕ) (label : ℕ → V) → AreJoins k g label → AreJoins k (next k g (bring p)) label
    bring_keeps g p label joins q = join_agree laws g (next k g (bring p)) (λ x. record { own = refl; links = λ u t. (λ m. m, λ m. m) }) q (label q) (joins q)

    pub discard_keeps : (g : Ledger V P) (rank : ℕ → ℕ) → Topological rank g.links → (p : ℕ) → ((v : ℕ) (t : P) → Leads g.links p v t → ⊥) →
        (label : ℕ → V) → AreJoins k g label → AreJoins k (next k g (discard p)) (put label p k.empty)
    discard_keeps g rank up p none label joins =
        fixed_is_join laws (next k g (discard p)) rank (put label p k.empty) (kept_each (λ a b t. rank a < rank b) _ g.links up)
        (discard_balances g p label (joins_balance laws g rank up label joins) none)
