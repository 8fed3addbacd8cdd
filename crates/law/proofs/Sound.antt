-- What holds of a store's state along a run. Assumes nothing.
use Rattle.std.proofs.Common.{◌≡◌, ℕ, ◌<◌, Bool, true, false, cond, List, [], ◌∷◌, ◌++◌, length, sym, refl, ap, ◌∙◌, subst, inl, inr, ⊎_elim, arith}
use borrow.Author.Tests.{both_ways}
use Rattle.std.proofs.lemmas.Bool.{cases_lt}
use Rattle.paths.specs.Kind.{Kind, Laws, FreeLaws}
use Rattle.paths.specs.Ledger.{Link, Ledger, Leads, Inside, IsJoin, AreJoins}
use Rattle.paths.specs.Equations.{Topological}
use Rattle.paths.specs.Edits.{AgreeAt}
use Rattle.paths.specs.Order.{upto, rank_in}
use Rattle.paths.specs.Calls.{at_first, put, next}
use Rattle.paths.specs.Calls as ledger
use Rattle.paths.proofs.Lists.{has_none, has_cases, has_kept}
use Rattle.paths.proofs.Joins.{fixed_is_join}
use Rattle.paths.proofs.Exists.{joins_balance, join_agree}
use Rattle.paths.proofs.Calls.{discard_balances}
use Rattle.paths.proofs.Agree.{agree_back}
use Rattle.paths.proofs.Permutes.{upto_length}
use Rattle.common.specs.Checks.{Passed}
use Rattle.law.specs.Calls.{Call, bring, own, link, unlink, label, explain, list, grant, renew, give_back, discard, Answer, refused, done, edited, labelled, listed, granted, accepted, Event, fed, then, ledger_after, permit_after, Permit, none, out, is_out, hands}
use Rattle.law.specs.Ranks.{Shifted, OrderAfter}
use Rattle.law.specs.State.{State, Leaves, checks, Same}
use Rattle.law.specs.Steps.{New, relabels, Does, Edits, Turns, Step, refuses, brings, owns, links, unlinks, labels, explains, lists, grants, renews, gives_back, discards}
use Rattle.law.proofs.Orders.{Whole, grown, upto_whole}
use Rattle.law.proofs.Ledgers.{is_true, same_on, same_agrees, same_fed, same_shifts, ledger_push, order_push, permit_push}

-- the state says what the history says
pub record Tells {V P : Type 0} (k : Kind V P) (n m : ℕ) (es : List (Event V P)) (s : State V P) : Type 0 where
  pub places : s.places ≡ n
  pub limit : s.limit ≡ m
  pub same : Same s.ledger (ledger_after k es)
  pub order : OrderAfter k n es s.order
  pub permit : s.permit ≡ permit_after es

-- the state is sound by itself
pub record Fit {V P : Type 0} (k : Kind V P) (free : ℕ → V → Bool) (s : State V P) : Type 0 where
  pub long : length s.order ≡ s.places
  pub whole : Whole s.order
  pub inside : Inside (length s.order) s.ledger.links
  pub up : Topological (rank_in s.order) s.ledger.links
  pub joined : AreJoins k s.ledger s.label
  pub held : (p d : ℕ) → s.permit ≡ out p d → (free d (s.label p) ≡ true) × (Leaves s.ledger.links p → ⊥)

not_out : (x : Permit) → (is_out x ≡ true → ⊥) → (p d : ℕ) → x ≡ out p d → ⊥
not_out x h p d e = h (ap is_out e)

none_out : (x : Permit) → x ≡ none → (p d : ℕ) → x ≡ out p d → ⊥
none_out x e p d f = both_ways (is_out x) (ap is_out e) (ap is_out f)

module _ {V P : Type 0} {k : Kind V P} (laws : Laws k) {free : ℕ → V → Bool} (free_laws : FreeLaws k free) (n m : ℕ) where
  tells_refused : (es : List (Event V P)) (s : State V P) (c : Call V P) (a : Answer V) → accepted a ≡ false → Tells k n m es s → Tells k n m (es ++ ((c, a) ∷ [])) s
  tells_refused es s c a e t =
      let g = ledger_after k es in
      let x : then k g (c, a) ≡ g = ap (λ b. cond b (fed k g c) g) e in
      let y = permit_push none es (c, a) ∙ ap (λ b. cond b (hands (permit_after es) c) (permit_after es)) e in
      record {
        places = t.places;
        limit = t.limit;
        same = subst (Same s.ledger) (sym (ledger_push k (at_first k) es (c, a) ∙ x)) t.same;
        order = order_push k (at_first k) (upto n) es (c, a) s.order s.order t.order (subst (λ b. Shifted g.links c b s.order s.order) (sym e) refl);
        permit = t.permit ∙ sym y;
      }

  tells_push : (es : List (Event V P)) (s t : State V P) (c : Call V P) (a : Answer V) → accepted a ≡ true → Tells k n m es s → Does k s c t → Tells k n m (es ++ ((c, a) ∷ [])) t
  tells_push es s t c a e w d =
      let g = ledger_after k es in
      let x : then k g (c, a) ≡ fed k g c = ap (λ b. cond b (fed k g c) g) e in
      let y = permit_push none es (c, a) ∙ ap (λ b. cond b (hands (permit_after es) c) (permit_after es)) e in
      record {
        places = d.places ∙ w.places;
        limit = d.limit ∙ w.limit;
        same = subst (Same t.ledger) (sym (ledger_push k (at_first k) es (c, a) ∙ x)) (same_on d.ledger (same_fed w.same k c));
        order = order_push k (at_first k) (upto n) es (c, a) s.order t.order w.order
            (subst (λ b. Shifted g.links c b s.order t.order) (sym e) (same_shifts w.same c s.order t.order d.order));
        permit = d.permit ∙ ap (λ z. hands z c) w.permit ∙ sym y;
      }

  -- the order is as it was, and every link was there
  fewer : (s t : State V P) → Fit k free s → t.places ≡ s.places → t.order ≡ s.order → ((u v : ℕ) (x : P) → Leads t.ledger.links u v x → Leads s.ledger.links u v x) →
      AreJoins k t.ledger t.label → ((p d : ℕ) → t.permit ≡ out p d → (free d (t.label p) ≡ true) × (Leaves t.ledger.links p → ⊥)) → Fit k free t
  fewer s t f pl o sub joined held =
      record {
        long = ap length o ∙ f.long ∙ sym pl;
        whole = subst Whole (sym o) f.whole;
        inside = λ u v x h. subst (λ (z : List ℕ). (u < length z) × (v < length z)) (sym o) (f.inside u v x (sub u v x h));
        up = λ u v x h. subst (λ (z : List ℕ). rank_in z u < rank_in z v) (sym o) (f.up u v x (sub u v x h));
        joined = joined;
        held = held;
      }

  -- own labels, links and labels are as they were
  still : (s t : State V P) → Fit k free s → t.places ≡ s.places → t.order ≡ s.order → ((p : ℕ) → AgreeAt t.ledger s.ledger p) → ((p : ℕ) → t.label p ≡ s.label p) →
      ((p d : ℕ) → t.permit ≡ out p d → (free d (s.label p) ≡ true) × (Leaves s.ledger.links p → ⊥)) → Fit k free t
  still s t f pl o agree lab held =
      fewer s t f pl o (λ u v x h. ((agree v).links u x).0 h)
      (λ p. subst (IsJoin k t.ledger p) (sym (lab p)) (join_agree laws s.ledger t.ledger (λ q. agree_back t.ledger s.ledger q (agree q)) p (s.label p) (f.joined p)))
      (λ p d e. let h = held p d e in (ap (free d) (lab p) ∙ h.0, λ l. h.1 (l.0, l.1, ((agree l.0).links p l.1).0 l.2)))

  pub fit_new : (s : State V P) → New k n m s → Fit k free s
  fit_new s w =
      let empty : (u v : ℕ) (x : P) → Leads s.ledger.links u v x → ⊥ = λ u v x h. has_none _ ((w.ledger.links u v x).0 h) in
      let len = upto_length n in
      record {
        long = ap length w.order ∙ len ∙ sym w.places;
        whole = subst Whole (sym w.order) (upto_whole n);
        inside = λ u v x h. absurd (empty u v x h);
        up = λ u v x h. absurd (empty u v x h);
        joined = λ p.
            subst (IsJoin k s.ledger p) (sym (w.label p))
            (join_agree laws (at_first k) s.ledger (λ q. agree_back s.ledger (at_first k) q (same_agrees w.ledger q)) p k.empty
            (fixed_is_join laws (at_first k) (λ q. q) (λ q. k.empty) (λ u v x h. absurd (has_none _ h)) (λ q. sym (laws.unit k.empty)) p));
        held = λ p d e. absurd (none_out s.permit w.permit p d e);
      }

  pub tells_new : (s : State V P) → New k n m s → Tells k n m [] s
  tells_new s w = record { places = w.places; limit = w.limit; same = w.ledger; order = w.order; permit = w.permit }

  -- a call that reads, or that hands out a permit or takes it back: what is to be shown of the permit that is out
  fit_turn : (s t : State V P) (c : Call V P) → Fit k free s → Turns k s c t → ((p : ℕ) → AgreeAt (fed k s.ledger c) s.ledger p) → t.order ≡ s.order →
      ((p : ℕ) → relabels k s.label c p ≡ s.label p) →
      ((p d : ℕ) → hands s.permit c ≡ out p d → (free d (s.label p) ≡ true) × (Leaves s.ledger.links p → ⊥)) → Fit k free t
  fit_turn s t c f w agree o lab held =
      let d = w.does in
      still s t f d.places o
      (λ p. let a = same_agrees d.ledger p in let b = agree p in record { own = a.own ∙ b.own; links = λ u x. (λ h. (b.links u x).0 ((a.links u x).0 h), λ h. (a.links u x).1 ((b.links u x).1 h)) })
      (λ p. w.labels p ∙ lab p) (λ p day e. held p day (sym d.permit ∙ e))

  agree_self : (g : Ledger V P) (p : ℕ) → AgreeAt g g p
  agree_self g p = record { own = refl; links = λ u t. (λ m. m, λ m. m) }

  fit_link : (s t : State V P) (u v : ℕ) (x : P) (room : ℕ) (ps : List ℕ) (i j : ℕ) → Fit k free s → Passed (checks free s (link u v x room)) → Edits k s (link u v x room) v ps i j t → Fit k free t
  fit_link s t u v x room ps i j f c w =
      let d = w.does in
      let len = f.long in
      let in_u : u < length s.order = ⊎_elim {C = u < length s.order} (λ l. omega arith) (λ l. absurd (c.1.1.0 (inl l))) (cases_lt u s.places) in
      let in_v : v < length s.order = ⊎_elim {C = v < length s.order} (λ l. omega arith) (λ l. absurd (c.1.1.0 (inr l))) (cases_lt v s.places) in
      let g = grown s.ledger.links s.order f.whole f.up f.inside u v in_u in_v c.1.1.1.1.1.1.0 t.order d.order in
      record {
        long = g.long ∙ f.long ∙ sym d.places;
        whole = g.whole;
        inside = λ a b y h.
            subst (λ (z : ℕ). (a < z) × (b < z)) (sym g.long)
            (⊎_elim {C = (a < length s.order) × (b < length s.order)}
            (λ e. (subst (λ (z : ℕ). z < length s.order) (ap (λ (l : Link P). l.source) e) in_u, subst (λ (z : ℕ). z < length s.order) (ap (λ (l : Link P). l.target) e) in_v))
            (λ old. f.inside a b y old) (has_cases s.ledger.links _ _ ((d.ledger.links a b y).0 h)));
        up = λ a b y h.
            ⊎_elim {C = rank_in t.order a < rank_in t.order b}
            (λ e. let p : u ≡ a = ap (λ (l : Link P). l.source) e in let q : v ≡ b = ap (λ (l : Link P). l.target) e in
            subst (λ (z : ℕ). rank_in t.order z < rank_in t.order b) p (subst (λ (z : ℕ). rank_in t.order u < rank_in t.order z) q g.turned))
            (λ old. g.rises a b y old) (has_cases s.ledger.links _ _ ((d.ledger.links a b y).0 h));
        joined = (w.labels f.joined).joins;
        held = λ p day e. absurd (not_out s.permit c.0 p day (sym d.permit ∙ e));
      }

  fit_discard : (s t : State V P) (p d : ℕ) → Fit k free s → Passed (checks free s (discard p d)) → Turns k s (discard p d) t → Fit k free t
  fit_discard s t p d f c w =
      let x = w.does in
      let sub : (u v : ℕ) (y : P) → Leads t.ledger.links u v y → Leads s.ledger.links u v y = λ u v y h. ((has_kept _ s.ledger.links _).0 ((x.ledger.links u v y).0 h)).0 in
      let g = next k s.ledger (ledger.discard p) in
      let up' : Topological (rank_in s.order) g.links = λ u v y h. f.up u v y ((has_kept _ s.ledger.links _).0 h).0 in
      let bal = discard_balances k laws s.ledger p s.label (joins_balance laws s.ledger (rank_in s.order) f.up s.label f.joined) (λ v y h. c.0 (λ e. (f.held p d e).1 (v, y, h))) in
      fewer s t f x.places x.order sub
      (λ q.
      subst (IsJoin k t.ledger q) (sym (w.labels q))
      (join_agree laws g t.ledger (λ r. agree_back t.ledger g r (same_agrees x.ledger r)) q _ (fixed_is_join laws g (rank_in s.order) (put s.label p k.empty) up' bal q)))
      (λ q day e. absurd (none_out t.permit x.permit q day e))

  pub fit_step : {s t : State V P} {c : Call V P} {a : Answer V} → Step k free s c a t → Fit k free s → Fit k free t
  fit_step (refuses s c r h) f = f
  fit_step (brings s t p c w) f =
      fit_turn s t (bring p) f w (λ q. record { own = refl; links = λ u x. (λ h. h, λ h. h) }) w.does.order (λ q. refl) (λ q d e. absurd (not_out s.permit c.0 q d e))
  fit_step (owns s t p x room ps i j c w) f =
      let d = w.does in
      fewer s t f d.places d.order (λ u v y h. (d.ledger.links u v y).0 h) (w.labels f.joined).joins (λ q day e. absurd (not_out s.permit c.0 q day (sym d.permit ∙ e)))
  fit_step (links s t u v x room ps i j c w) f = fit_link s t u v x room ps i j f c w
  fit_step (unlinks s t u v room ps i j c w) f =
      let d = w.does in
      fewer s t f d.places d.order (λ a b y h. ((has_kept _ s.ledger.links _).0 ((d.ledger.links a b y).0 h)).0) (w.labels f.joined).joins
      (λ q day e. absurd (not_out s.permit c.0 q day (sym d.permit ∙ e)))
  fit_step (labels s t p l c w e) f = fit_turn s t (label p) f w (agree_self s.ledger) w.does.order (λ q. refl) f.held
  fit_step (explains s t p d room ps c w e) f = fit_turn s t (explain p d room) f w (agree_self s.ledger) w.does.order (λ q. refl) f.held
  fit_step (lists s t d room ps c w e) f = fit_turn s t (list d room) f w (agree_self s.ledger) w.does.order (λ q. refl) f.held
  fit_step (grants s t p d c w) f =
      fit_turn s t (grant p d) f w (agree_self s.ledger) w.does.order (λ q. refl)
      (λ q day e.
      let a : p ≡ q = cc in
      let b : d ≡ day = cc in (
        subst (λ (z : ℕ). free z (s.label q) ≡ true) b (subst (λ (z : ℕ). free d (s.label z) ≡ true) a (is_true (free d (s.label p)) c.1.1.1.0)),
        subst (λ (z : ℕ). Leaves s.ledger.links z → ⊥) a c.1.1.1.1.0,
      ))
  fit_step (renews s t p d new c w) f =
      fit_turn s t (renew p d new) f w (agree_self s.ledger) w.does.order (λ q. refl)
      (λ q day e.
      let a : p ≡ q = cc in
      let b : new ≡ day = cc in (
        subst (λ (z : ℕ). free z (s.label q) ≡ true) b (subst (λ (z : ℕ). free new (s.label z) ≡ true) a (is_true (free new (s.label p)) c.1.0)),
        subst (λ (z : ℕ). Leaves s.ledger.links z → ⊥) a (λ l. c.0 (λ e. (f.held p d e).1 l)),
      ))
  fit_step (gives_back s t p d c w) f =
      fit_turn s t (give_back p d) f w (agree_self s.ledger) w.does.order (λ q. refl) (λ q day e. absurd (none_out none refl q day e))
  fit_step (discards s t p d c w) f = fit_discard s t p d f c w

  pub tells_step : {s t : State V P} {c : Call V P} {a : Answer V} (es : List (Event V P)) → Step k free s c a t → Tells k n m es s → Tells k n m (es ++ ((c, a) ∷ [])) t
  tells_step es (refuses s c r h) w = tells_refused es s c (refused r) refl w
  tells_step es (brings s t p c x) w = tells_push es s t (bring p) done refl w x.does
  tells_step es (owns s t p y room ps i j c x) w = tells_push es s t (own p y room) (edited ps i j) refl w x.does
  tells_step es (links s t u v y room ps i j c x) w = tells_push es s t (link u v y room) (edited ps i j) refl w x.does
  tells_step es (unlinks s t u v room ps i j c x) w = tells_push es s t (unlink u v room) (edited ps i j) refl w x.does
  tells_step es (labels s t p l c x e) w = tells_push es s t (label p) (labelled l) refl w x.does
  tells_step es (explains s t p d room ps c x e) w = tells_push es s t (explain p d room) (listed ps (length ps)) refl w x.does
  tells_step es (lists s t d room ps c x e) w = tells_push es s t (list d room) (listed ps (length ps)) refl w x.does
  tells_step es (grants s t p d c x) w = tells_push es s t (grant p d) (granted p d) refl w x.does
  tells_step es (renews s t p d new c x) w = tells_push es s t (renew p d new) (granted p new) refl w x.does
  tells_step es (gives_back s t p d c x) w = tells_push es s t (give_back p d) done refl w x.does
  tells_step es (discards s t p d c x) w = tells_push es s t (discard p d) done refl w x.does
