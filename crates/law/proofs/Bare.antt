-- An absent place has an empty own label and no link, and a permit is for a present place. Assumes nothing.
use Rattle.std.proofs.Common.{◌≡◌, ℕ, Bool, true, false, cond, not, eqb, sym, refl, ap, ◌∙◌, subst, inl, inr, ⊎_elim, eqb-true}
use borrow.Author.Tests.{both_ways}
use Rattle.paths.specs.Kind.{Kind}
use Rattle.paths.specs.Ledger.{Link, Ledger, Leads}
use Rattle.paths.specs.Calls.{at_first}
use Rattle.paths.proofs.Lists.{has_none, has_cases, has_kept}
use Rattle.paths.proofs.Calls.{put_other}
use Rattle.law.specs.Calls.{Call, bring, own, link, unlink, discard, Answer, fed, out, is_out, hands}
use Rattle.law.specs.State.{State, Leaves, Same}
use Rattle.law.specs.Steps.{New, Does, Step, refuses, brings, owns, links, unlinks, labels, explains, lists, grants, renews, gives_back, discards}
use Rattle.law.specs.Law.{Bare}
use Rattle.law.proofs.Ledgers.{is_true, is_true_too}
use Rattle.law.proofs.Sound.{Fit}

was_absent : (b x : Bool) → cond b true x ≡ false → x ≡ false
was_absent true x e = absurd (both_ways true e refl)
was_absent false x e = e

abbrev AllBare : {V P : Type 0} → Kind V P → Ledger V P → Type 0
AllBare k g = (p : ℕ) → g.present p ≡ false → Bare k g p

module _ {V P : Type 0} (k : Kind V P) where
  pub bare_same : (g h : Ledger V P) → Same g h → AllBare k h → AllBare k g
  bare_same g h s b p e =
      let x = b p (sym (s.present p) ∙ e) in
      record { own = s.own p ∙ x.own; into = λ u t m. x.into u t ((s.links u p t).0 m); from = λ v t m. x.from v t ((s.links p v t).0 m) }

  bare_first : AllBare k (at_first k)
  bare_first p e = record { own = refl; into = λ u t m. has_none _ m; from = λ v t m. has_none _ m }

  module _ (g : Ledger V P) (b : AllBare k g) where
    differs : (p q : ℕ) → g.present p ≡ true → g.present q ≡ false → ¬ (q ≡ p)
    differs p q e f i = both_ways (g.present q) f (ap g.present i ∙ e)

    bare_bring : (p : ℕ) → AllBare k (fed k g (bring p))
    bare_bring p q e = let x = b q (was_absent (eqb q p) (g.present q) e) in record { own = x.own; into = x.into; from = x.from }

    bare_own : (p : ℕ) (y : V) (room : ℕ) → g.present p ≡ true → AllBare k (fed k g (own p y room))
    bare_own p y room here q e = let x = b q e in record { own = sym (put_other g.own p y q (differs p q here e)) ∙ x.own; into = x.into; from = x.from }

    bare_link : (u v : ℕ) (y : P) (room : ℕ) → g.present u ≡ true → g.present v ≡ true → AllBare k (fed k g (link u v y room))
    bare_link u v y room in_u in_v q e =
        let x = b q e in
        record {
          own = x.own;
          into = λ a t m. ⊎_elim {C = ⊥} (λ i. differs v q in_v e (sym (ap (λ (l : Link P). l.target) i))) (x.into a t) (has_cases g.links _ _ m);
          from = λ c t m. ⊎_elim {C = ⊥} (λ i. differs u q in_u e (sym (ap (λ (l : Link P). l.source) i))) (x.from c t) (has_cases g.links _ _ m);
        }

    bare_unlink : (u v room : ℕ) → AllBare k (fed k g (unlink u v room))
    bare_unlink u v room q e =
        let x = b q e in
        record { own = x.own; into = λ a t m. x.into a t ((has_kept _ g.links _).0 m).0; from = λ c t m. x.from c t ((has_kept _ g.links _).0 m).0 }

    bare_discard : (p d : ℕ) → (Leaves g.links p → ⊥) → AllBare k (fed k g (discard p d))
    bare_discard p d clear q e = go (eqb q p) refl
      where
        go : (t : Bool) → eqb q p ≡ t → Bare k (fed k g (discard p d)) q
        go true i =
            record {
              own = ap (λ (t : Bool). cond t k.empty (g.own q)) i;
              into = λ a t m. both_ways _ (ap not i) ((has_kept _ g.links _).0 m).1;
              from = λ c t m. clear (c, t, subst (λ (z : ℕ). Leads g.links z c t) (eqb-true q p i) ((has_kept _ g.links _).0 m).0);
            }
        go false i =
            let old : g.present q ≡ false = ap (λ (t : Bool). cond t false (g.present q)) (sym i) ∙ e in
            let x = b q old in
            record {
              own = ap (λ (t : Bool). cond t k.empty (g.own q)) i ∙ x.own;
              into = λ a t m. x.into a t ((has_kept _ g.links _).0 m).0;
              from = λ c t m. x.from c t ((has_kept _ g.links _).0 m).0;
            }

  -- an absent place is bare, and the permit that is out is for a present one
  pub record Peopled (s : State V P) : Type 0 where
    pub bare : AllBare k s.ledger
    pub there : (p d : ℕ) → s.permit ≡ out p d → s.ledger.present p ≡ true

  pub peopled_new : (n m : ℕ) (s : State V P) → New k n m s → Peopled s
  peopled_new n m s w =
      record { bare = bare_same s.ledger (at_first k) w.ledger bare_first; there = λ p d e. absurd (both_ways (is_out s.permit) (ap is_out w.permit) (ap is_out e)) }

  -- an accepted call
  push : (s t : State V P) (c : Call V P) → Does k s c t → AllBare k (fed k s.ledger c) → ((p d : ℕ) → hands s.permit c ≡ out p d → (fed k s.ledger c).present p ≡ true) → Peopled t
  push s t c d b h =
      record { bare = bare_same t.ledger (fed k s.ledger c) d.ledger b; there = λ p day e. d.ledger.present p ∙ h p day (sym d.permit ∙ e) }

  pub peopled_step : {free : ℕ → V → Bool} {s t : State V P} {c : Call V P} {a : Answer V} → Step k free s c a t → Fit k free s → Peopled s → Peopled t
  peopled_step (refuses s c r h) f w = w
  peopled_step (brings s t p c x) f w = push s t _ x.does (bare_bring s.ledger w.bare p) (λ q d e. absurd (c.0 (ap is_out e)))
  peopled_step (owns s t p y room ps i j c x) f w =
      push s t _ x.does (bare_own s.ledger w.bare p y room (is_true _ c.1.1.1.0)) w.there
  peopled_step (links s t u v y room ps i j c x) f w =
      push s t _ x.does (bare_link s.ledger w.bare u v y room (is_true _ (λ e. c.1.1.1.0 (inl e))) (is_true _ (λ e. c.1.1.1.0 (inr e)))) w.there
  peopled_step (unlinks s t u v room ps i j c x) f w = push s t _ x.does (bare_unlink s.ledger w.bare u v room) w.there
  peopled_step (labels s t p l c x e) f w = push s t _ x.does w.bare w.there
  peopled_step (explains s t p d room ps c x e) f w = push s t _ x.does w.bare w.there
  peopled_step (lists s t d room ps c x e) f w = push s t _ x.does w.bare w.there
  peopled_step (grants s t p d c x) f w =
      push s t _ x.does w.bare (λ q day e. let i : p ≡ q = cc in subst (λ (z : ℕ). s.ledger.present z ≡ true) i (is_true _ c.1.1.0))
  peopled_step (renews s t p d new c x) f w =
      push s t _ x.does w.bare
      (λ q day e. let i : p ≡ q = cc in subst (λ (z : ℕ). s.ledger.present z ≡ true) i (is_true_too (s.ledger.present p) (λ h. c.0 (λ z. h (w.there p d z)))))
  peopled_step (gives_back s t p d c x) f w = push s t _ x.does w.bare (λ q day e. absurd (both_ways false refl (ap is_out e)))
  peopled_step (discards s t p d c x) f w =
      push s t _ x.does (bare_discard s.ledger w.bare p d (λ l. c.0 (λ e. (f.held p d e).1 l))) (λ q day e. absurd (both_ways false refl (ap is_out e)))
