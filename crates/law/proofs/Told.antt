-- Every run keeps the law. Assumes nothing.
use Rattle.std.proofs.Common.{◌≡◌, ℕ, ◌≤◌, Bool, true, false, ◌⊎◌, ◌↔◌, List, [], ◌∷◌, ◌++◌, length, sym, refl, ap, ◌∙◌, subst, inl, inr, ⊎_elim, arith}
use Rattle.paths.specs.Kind.{Kind, Laws, FreeLaws}
use Rattle.paths.specs.Ledger.{Ledger, IsJoin, AreJoins}
use Rattle.paths.proofs.Exists.{join_agree}
use Rattle.paths.proofs.Agree.{report_agrees}
use Rattle.paths.proofs.Free.{paths_from_free}
use Rattle.common.specs.Checks.{Check, Passed, Refused}
use Rattle.paths.specs.Order.{rank_in}
use Rattle.law.specs.Calls.{Call, bring, own, link, unlink, label, explain, list, grant, renew, give_back, discard, Answer, refused, done, edited, labelled, listed, granted, Event, ledger_after, permit_after, out}
use Rattle.law.specs.State.{State, IsLinked, Leaves, checks, Decided, Same}
use Rattle.law.specs.Steps.{New, IsList, Edits, Step, refuses, brings, owns, links, unlinks, labels, explains, lists, grants, renews, gives_back, discards, Trace, start, more}
use Rattle.law.proofs.Bare.{Peopled, peopled_new, peopled_step, bare_same}
use Rattle.law.specs.Law.{Releasable, Told, Right, Answered, Law}
use Rattle.common.specs.declared.refusal.Refusal.{Refusal}
use Rattle.law.proofs.Ledgers.{is_true_too, same_sym, same_agrees, same_size, same_path, split_last}
use Rattle.law.proofs.Explained.{explained_on}
use Rattle.law.proofs.Sound.{Tells, Fit, fit_new, tells_new, fit_step, tells_step}

-- the same refusals, under conditions that come to the same
abbrev Alike : {R : Type 0} → List (Check R) → List (Check R) → Type 0
Alike [] [] = Unit {0}
Alike [] (d ∷ ds) = ⊥
Alike (c ∷ cs) [] = ⊥
Alike (c ∷ cs) (d ∷ ds) = (c.refusal ≡ d.refusal) × (c.applies ↔ d.applies) × Alike cs ds

alike_passed : {R : Type 0} (cs ds : List (Check R)) → Alike cs ds → Passed cs → Passed ds
alike_passed [] [] a p = tt
alike_passed [] (d ∷ ds) a p = absurd a
alike_passed (c ∷ cs) [] a p = absurd a
alike_passed (c ∷ cs) (d ∷ ds) a p = (λ x. p.0 (a.1.1 x), alike_passed cs ds a.2 p.1)

alike_refused : {R : Type 0} (cs ds : List (Check R)) (r : R) → Alike cs ds → Refused cs r → Refused ds r
alike_refused [] ds r a p = absurd p
alike_refused (c ∷ cs) [] r a p = absurd a
alike_refused (c ∷ cs) (d ∷ ds) r a (inl p) = inl (a.1.0 p.0, p.1 ∙ a.0)
alike_refused (c ∷ cs) (d ∷ ds) r a (inr p) = inr (λ x. p.0 (a.1.1 x), alike_refused cs ds r a.2 p.1)

either : {A B C D : Type 0} → (A → C) → (B → D) → A ⊎ B → C ⊎ D
either f g (inl a) = inl (f a)
either f g (inr b) = inr (g b)

as_is : {A : Type 0} → A ↔ A
as_is = (λ x. x, λ x. x)

-- s with another ledger
abbrev with : {V P : Type 0} → State V P → Ledger V P → State V P
with s g = record { places = s.places; limit = s.limit; ledger = g; label = s.label; order = s.order; permit = s.permit }

module _ {V P : Type 0} (free : ℕ → V → Bool) (s : State V P) (g : Ledger V P) (same : Same s.ledger g) where
  here : (p : ℕ) (b : Bool) → (s.ledger.present p ≡ b) ↔ (g.present p ≡ b)
  here p b = (λ e. sym (same.present p) ∙ e, λ e. same.present p ∙ e)

  two : (u v : ℕ) → ((s.ledger.present u ≡ false) ⊎ (s.ledger.present v ≡ false)) ↔ ((g.present u ≡ false) ⊎ (g.present v ≡ false))
  two u v = (either (here u false).0 (here v false).0, either (here u false).1 (here v false).1)

  linked : (u v : ℕ) → IsLinked s.ledger.links u v ↔ IsLinked g.links u v
  linked u v = (λ l. (l.0, (same.links u v l.0).0 l.1), λ l. (l.0, (same.links u v l.0).1 l.1))

  leaves : (p : ℕ) → Leaves s.ledger.links p ↔ Leaves g.links p
  leaves p = (λ l. (l.0, l.1, (same.links p l.0 l.1).0 l.2), λ l. (l.0, l.1, (same.links p l.0 l.1).1 l.2))

  full : (s.limit ≤ length s.ledger.links) ↔ (s.limit ≤ length g.links)
  full = let e = same_size same in (λ l. omega arith, λ l. omega arith)

  list_on : (d : ℕ) (ps : List ℕ) → IsList free s d ps → IsList free (with s g) d ps
  list_on d ps l =
      record {
        those = λ p. (
          λ h. let r = (l.those p).0 h in (r.0, (here p true).0 r.1, r.2, λ x. r.3 ((leaves p).1 x)),
          λ r. (l.those p).1 (r.0, (here p true).1 r.1, r.2, λ x. r.3 ((leaves p).0 x)),
        );
        ascending = l.ascending;
      }

  alike : (c : Call V P) → Alike (checks free s c) (checks free (with s g) c)
  alike (bring p) = (refl, as_is, (refl, as_is, (refl, here p true, tt)))
  alike (own p x room) = (refl, as_is, (refl, as_is, (refl, as_is, (refl, here p false, tt))))
  alike (link u v t room) =
      (refl, as_is, (refl, as_is, (refl, as_is, (refl, two u v, (refl, linked u v, (refl, full, (refl, (λ π. same_path same π, λ π. same_path (same_sym same) π), tt)))))))
  alike (unlink u v room) = (refl, as_is, (refl, as_is, (refl, as_is, (refl, two u v, (refl, (λ h l. h ((linked u v).1 l), λ h l. h ((linked u v).0 l)), tt)))))
  alike (label p) = (refl, as_is, (refl, here p false, tt))
  alike (explain p d room) = (refl, as_is, (refl, as_is, (refl, here p false, (refl, as_is, tt))))
  alike (list d room) = (refl, as_is, tt)
  alike (grant p d) = (refl, as_is, (refl, as_is, (refl, here p false, (refl, as_is, (refl, leaves p, tt)))))
  alike (renew p d new) = (refl, as_is, (refl, as_is, tt))
  alike (give_back p d) = (refl, as_is, tt)
  alike (discard p d) = (refl, as_is, tt)

module _ {V P : Type 0} {k : Kind V P} (laws : Laws k) {free : ℕ → V → Bool} (free_laws : FreeLaws k free) (n m : ℕ) where
  decided : {s t : State V P} {c : Call V P} {a : Answer V} → Step k free s c a t → Decided (checks free s c) a
  decided (refuses s c r h) = h
  decided (brings s t p c x) = c
  decided (owns s t p y room ps i j c x) = c
  decided (links s t u v y room ps i j c x) = c
  decided (unlinks s t u v room ps i j c x) = c
  decided (labels s t p l c x e) = c
  decided (explains s t p d room ps c x e) = c
  decided (lists s t d room ps c x e) = c
  decided (grants s t p d c x) = c
  decided (renews s t p d new c x) = c
  decided (gives_back s t p d c x) = c
  decided (discards s t p d c x) = c

  decided_alike : (cs ds : List (Check Refusal)) → Alike cs ds → (a : Answer V) → Decided cs a → Decided ds a
  decided_alike cs ds l (refused r) h = alike_refused cs ds r l h
  decided_alike cs ds l done h = alike_passed cs ds l h
  decided_alike cs ds l (edited ps i j) h = alike_passed cs ds l h
  decided_alike cs ds l (labelled x) h = alike_passed cs ds l h
  decided_alike cs ds l (listed ps i) h = alike_passed cs ds l h
  decided_alike cs ds l (granted p d) h = alike_passed cs ds l h

  joined_on : (es : List (Event V P)) (s : State V P) → Tells k n m es s → AreJoins k s.ledger s.label → AreJoins k (ledger_after k es) s.label
  joined_on es s w j p = join_agree laws s.ledger (ledger_after k es) (same_agrees w.same) p (s.label p) (j p)

  edit_told : (es : List (Event V P)) (s t : State V P) (c : Call V P) (e : ℕ) (ps : List ℕ) (i j : ℕ) (a : Answer V) →
      Tells k n m es s → Fit k free s → Tells k n m (es ++ ((c, a) ∷ [])) t → Edits k s c e ps i j t → Told k free n m es (es ++ ((c, a) ∷ [])) e ps i j
  edit_told es s t c e ps i j a w f x ed =
      let r = ed.labels f.joined in
      record {
        old = s.label;
        new = t.label;
        order = t.order;
        was = joined_on es s w f.joined;
        is = joined_on (es ++ ((c, a) ∷ [])) t x r.joins;
        rule = x.order;
        report = report_agrees t.ledger (ledger_after k (es ++ ((c, a) ∷ []))) (same_agrees x.same) e s.label t.label (rank_in t.order) ps r.report;
        first = r.first;
        second = r.second;
      }

  right : {s t : State V P} {c : Call V P} {a : Answer V} (es : List (Event V P)) → Step k free s c a t → Tells k n m es s → Fit k free s → Tells k n m (es ++ ((c, a) ∷ [])) t →
      Right k free n m es (with s (ledger_after k es)) c a
  right es (refuses s (bring p) r h) w f x = tt
  right es (refuses s (own p y room) r h) w f x = tt
  right es (refuses s (link u v y room) r h) w f x = tt
  right es (refuses s (unlink u v room) r h) w f x = tt
  right es (refuses s (label p) r h) w f x = tt
  right es (refuses s (explain p d room) r h) w f x = tt
  right es (refuses s (list d room) r h) w f x = tt
  right es (refuses s (grant p d) r h) w f x = tt
  right es (refuses s (renew p d new) r h) w f x = tt
  right es (refuses s (give_back p d) r h) w f x = tt
  right es (refuses s (discard p d) r h) w f x = tt
  right es (brings s t p c y) w f x = tt
  right es (owns s t p y room ps i j c z) w f x = edit_told es s t _ p ps i j _ w f x z
  right es (links s t u v y room ps i j c z) w f x = edit_told es s t _ v ps i j _ w f x z
  right es (unlinks s t u v room ps i j c z) w f x = edit_told es s t _ v ps i j _ w f x z
  right es (labels s t p l c y e) w f x = subst (IsJoin k (ledger_after k es) p) (sym e) (joined_on es s w f.joined p)
  right es (explains s t p d room ps c y e) w f x = (refl, explained_on k free w.same s.label d p ps (e f.joined))
  right es (lists s t d room ps c y e) w f x = (refl, list_on free s (ledger_after k es) w.same d ps e)
  right es (grants s t p d c y) w f x = (refl, refl)
  right es (renews s t p d new c y) w f x = (refl, refl)
  right es (gives_back s t p d c y) w f x = tt
  right es (discards s t p d c y) w f x =
      paths_from_free laws free_laws (ledger_after k es) p d (s.label p) (joined_on es s w f.joined p)
      (is_true_too (free d (s.label p)) (λ h. c.0 (λ e. h (f.held p d e).0)))

  answered : {s t : State V P} {c : Call V P} {a : Answer V} (es : List (Event V P)) → Step k free s c a t → Tells k n m es s → Fit k free s → Answered k free n m es c a
  answered {s} {t} {c} {a} es st w f =
      record {
        found = with s (ledger_after k es);
        seen = record { places = w.places; limit = w.limit; ledger = refl; label = joined_on es s w f.joined; order = w.order; permit = w.permit };
        decided = decided_alike _ _ (alike free s (ledger_after k es) w.same c) a (decided st);
        right = right es st w f (tells_step laws free_laws n m es st w);
      }

  -- what a run gives: the state says what the history says and is sound, and each answer was right
  record Ran (es : List (Event V P)) (t : State V P) : Type 0 where
    tells : Tells k n m es t
    fit : Fit k free t
    peopled : Peopled k t
    all : (before after : List (Event V P)) (c : Call V P) (a : Answer V) → es ≡ before ++ ((c, a) ∷ after) → Answered k free n m before c a

  cut_none : (before after : List (Event V P)) (c : Call V P) (a : Answer V) → [] ≡ before ++ ((c, a) ∷ after) → ⊥
  cut_none [] after c a e = let z = ap length e in omega arith
  cut_none (b ∷ bs) after c a e = let z = ap length e in omega arith

  ran_start : (s : State V P) → New k n m s → Ran [] s
  ran_start s w =
      record { tells = tells_new laws free_laws n m s w; fit = fit_new laws free_laws n m s w; peopled = peopled_new k n m s w; all = λ before after c a e. absurd (cut_none before after c a e) }

  -- the last answer, under other names
  answered_as : (es before : List (Event V P)) (c d : Call V P) (a b : Answer V) → before ≡ es → d ≡ c → b ≡ a → Answered k free n m es c a → Answered k free n m before d b
  answered_as es before c d a b p q r x =
      subst (λ (z : Answer V). Answered k free n m before d z) (sym r)
      (subst (λ (z : Call V P). Answered k free n m before z a) (sym q) (subst (λ (z : List (Event V P)). Answered k free n m z c a) (sym p) x))

  all_more : (es : List (Event V P)) (c : Call V P) (a : Answer V) → ((before after : List (Event V P)) (d : Call V P) (b : Answer V) → es ≡ before ++ ((d, b) ∷ after) → Answered k free n m before d b) →
      Answered k free n m es c a →
      (before after : List (Event V P)) (d : Call V P) (b : Answer V) → es ++ ((c, a) ∷ []) ≡ before ++ ((d, b) ∷ after) → Answered k free n m before d b
  all_more es c a all x before after d b e =
      ⊎_elim {C = Answered k free n m before d b}
      (λ q. answered_as es before c d a b q.0 (ap (λ (z : Event V P). z.0) q.1) (ap (λ (z : Event V P). z.1) q.1) x)
      (λ q. all before q.0 d b q.1)
      (split_last es before after (c, a) (d, b) e)

  ran_more : (es : List (Event V P)) (t u : State V P) (c : Call V P) (a : Answer V) → Ran es t → Step k free t c a u → Ran (es ++ ((c, a) ∷ [])) u
  ran_more es t u c a r st =
      record {
        tells = tells_step laws free_laws n m es st r.tells;
        fit = fit_step laws free_laws n m st r.fit;
        peopled = peopled_step k st r.fit r.peopled;
        all = all_more es c a r.all (answered es st r.tells r.fit);
      }

  ran : (s : State V P) → New k n m s → {es : List (Event V P)} {t : State V P} → Trace k free s es t → Ran es t
  ran s w start = ran_start s w
  ran s w (more es t u c a run st) = ran_more es t u c a (ran s w run) st

  releasable : (es : List (Event V P)) (t : State V P) → Ran es t → (p d : ℕ) → permit_after es ≡ out p d → Releasable k free (ledger_after k es) p d
  releasable es t r p d e =
      let w = r.tells in
      let h = r.fit.held p d (w.permit ∙ e) in
      record {
        present = sym (w.same.present p) ∙ r.peopled.there p d (w.permit ∙ e);
        unkept = paths_from_free laws free_laws (ledger_after k es) p d (t.label p) (joined_on es t w r.fit.joined p) h.0;
        leaves = λ l. h.1 (l.0, l.1, (w.same.links p l.0 l.1).1 l.2);
      }

  pub law : (s t : State V P) (es : List (Event V P)) → New k n m s → Trace k free s es t → Law k free n m es t
  law s t es w run =
      let r = ran s w run in
      record {
        labels = joined_on es t r.tells r.fit.joined;
        absent = bare_same k (ledger_after k es) t.ledger (same_sym r.tells.same) r.peopled.bare;
        permit = releasable es t r;
        answers = r.all;
      }
