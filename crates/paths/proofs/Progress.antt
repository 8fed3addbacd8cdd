-- The walk up the ranks: it begins, goes on and ends. Assumes nothing.
use Rattle.std.proofs.Common.{◌≡◌, ℕ, ◌+◌, ◌<◌, ◌≤◌, Bool, true, false, ◌⊎◌, ◌↔◌, List, [], ◌∷◌, ◌++◌, length, sym, ap, ◌∙◌, subst, inl, inr, ⊎_elim, not-suc-le-zero, arith}
use Rattle.std.specs.List.{ContainsAt as Has}
use Rattle.std.proofs.lemmas.Bool.{cases_lt, cases_eq}
use Rattle.std.proofs.lemmas.List.{length_push}
use Rattle.std.proofs.ByRecursion.{has_append_left, has_push, has_push_cases}
use Rattle.paths.specs.Kind.{Kind, Laws}
use Rattle.paths.specs.Ledger.{Ledger, Leads, Inside}
use Rattle.paths.specs.Equations.{Balanced, BalancedAt, Topological}
use Rattle.paths.specs.Edits.{Edited, Stands}
use Rattle.paths.specs.Reports.{Changed, Reported, IsReport, Rising, Number}
use Rattle.paths.specs.Walk.{State, Same, Turned, Passed, Redone, Stepped, Done, Progress}
use Rattle.paths.proofs.Lists.{has_none}
use Rattle.paths.proofs.Numbers.{rising_push}
use Rattle.paths.proofs.Edits.{inflow_eq, relabelled}

module _ {V P : Type 0} {k : Kind V P} (laws : Laws k) (h : Ledger V P) (e : ℕ) (old : ℕ → V) where
  -- what is said of p speaks of the labels of p and of the sources of the links into p
  module _ (a b : ℕ → V) (p : ℕ) (same : (q : ℕ) (t : P) → Leads h.links q p t → b q ≡ a q) where
    pub reported_moves : Reported h e old a p → Reported h e old b p
    reported_moves (inl q) = inl q
    reported_moves (inr (q, t, m, c)) = inr (q, t, m, λ x. c (sym (same q t m) ∙ x))

    pub balanced_moves : b p ≡ a p → BalancedAt k h a p → BalancedAt k h b p
    balanced_moves here bal =
        here ∙ bal ∙ ap (k.join (h.own p)) (inflow_eq laws a b h p (λ u t m. sym (same u t m)))

    pub stands_moves : b p ≡ a p → Stands h e old a p → Stands h e old b p
    stands_moves here s = record { kept = here ∙ s.kept; other = s.other; sources = λ u t m. same u t m ∙ s.sources u t m }

    pub done_moves : b p ≡ a p → Done k h e old a p → Done k h e old b p
    done_moves here (inl d) = inl (reported_moves d.0, balanced_moves here d.1)
    done_moves here (inr s) = inr (stands_moves here s)

  module _ (rank : ℕ → ℕ) (n : ℕ) (up : Topological rank h.links) (inside : Inside n h.links) where
    -- before the walk
    pub begun : (r : ℕ) (s : State V) → rank e ≡ r → ((p : ℕ) → s.labels p ≡ old p) → ((p : ℕ) → p < n → s.marks p ≡ 0) → s.told ≡ [] → s.changed ≡ 0 →
        Progress k h rank n e old r s
    begun r s at same clear none zero =
        record {
          kept = λ p f. same p;
          marked = λ p l one. absurd (bad p l one);
          unmarked = λ p l f. same p;
          done = λ p l low. inr (record { kept = same p; other = λ q. not_e p low q; sources = λ u t m. same u });
          listed = λ p i. absurd (has_none p (subst (λ (ps : List ℕ). Has ps p) none i));
          lists = λ p l low f. absurd (unreported p low f);
          rising = rw none (λ i j l m. absurd (not-suc-le-zero m));
          turned = [];
          turned_those = λ p. (λ i. absurd (has_none p i), λ c. absurd (c (same p)));
          turned_rising = λ i j l m. absurd (not-suc-le-zero m);
          turned_size = sym zero;
        }
      where
        bad : (p : ℕ) → p < n → s.marks p ≡ 1 → ⊥
        bad p l one = let z = clear p l in omega arith

        not_e : (p : ℕ) → rank p < r → p ≡ e → ⊥
        not_e p low q = let f = ap rank q in omega arith

        unreported : (p : ℕ) → rank p < r → Reported h e old s.labels p → ⊥
        unreported p low (inl q) = not_e p low q
        unreported p low (inr (q, t, m, c)) = c (same q)

    -- after the walk
    pub ended : (g : Ledger V P) (s : State V) → ((p : ℕ) → p < n → rank p < n) → e < n → Balanced k g old → Edited g h e → Progress k h rank n e old n s →
        Balanced k h s.labels × IsReport h e old s.labels rank s.told × Number (Changed old s.labels) s.changed
    ended g s low in' bal edited pr = (
      relabelled laws g h e old s.labels bal edited each,
      record { those = λ p. (λ i. (pr.listed p i).2, λ f. let l = below p f in pr.lists p l (low p l) f); rising = pr.rising },
      record {
        all = pr.turned;
        those = pr.turned_those;
        once = λ i j l m q. let f = pr.turned_rising i j l m in let w = ap rank q in omega arith;
        size = pr.turned_size;
      },
    )
      where
        below : (p : ℕ) → Reported h e old s.labels p → p < n
        below p (inl q) = omega arith
        below p (inr (q, t, m, c)) = (inside q p t m).1

        each : (p : ℕ) → BalancedAt k h s.labels p ⊎ Stands h e old s.labels p
        each p =
            ⊎_elim {C = BalancedAt k h s.labels p ⊎ Stands h e old s.labels p}
            (λ l. ⊎_elim (λ d. inl d.1) inr (pr.done p l (low p l)))
            (λ ge. inr (record { kept = pr.kept p (λ l. omega arith); other = λ q. omega arith; sources = λ u t m. let l = (inside u p t m).1 in let z : ⊥ = omega arith in absurd z }))
            (cases_lt p n)

    -- the place x of the rank r
    module _ (r x : ℕ) (in' : x < n) (at : rank x ≡ r) (only : (p : ℕ) → p < n → rank p ≡ r → p ≡ x) (edited : Bool) (yes' : edited ≡ true → x ≡ e) (no' : edited ≡ false → x ≡ e → ⊥)
        (s t : State V) (pr : Progress k h rank n e old r s) where
      was : s.labels x ≡ old x
      was = pr.kept x (λ l. omega arith)

      -- a place of a lower rank, or x
      lower : (p : ℕ) → p < n → rank p < r + 1 → (rank p < r) ⊎ (p ≡ x)
      lower p l m = ⊎_elim {C = (rank p < r) ⊎ (p ≡ x)} inl (λ ge. inr (only p l (omega arith))) (cases_lt (rank p) r)

      changed_low : (p : ℕ) → Changed old s.labels p → (p < n) × (rank p < r)
      changed_low p c =
          let l : p < n = ⊎_elim {C = p < n} (λ l. l) (λ ge. absurd (c (pr.kept p (λ l. omega arith)))) (cases_lt p n) in
          (l, ⊎_elim {C = rank p < r} (λ l. l) (λ ge. absurd (c (pr.kept p (λ l. ge)))) (cases_lt (rank p) r))

      source_not : (p q : ℕ) (a : P) → rank p < r + 1 → Leads h.links q p a → q ≡ x → ⊥
      source_not p q a l m i = let f = up q p a m in let w = ap rank i in omega arith

      module _ (others : (q : ℕ) → ¬ (q ≡ x) → t.labels q ≡ s.labels q) where
        near : (p : ℕ) → rank p < r + 1 → (q : ℕ) (a : P) → Leads h.links q p a → t.labels q ≡ s.labels q
        near p l q a m = others q (source_not p q a l m)

        not_x : (p : ℕ) → rank p < r → p ≡ x → ⊥
        not_x p l q = let w = ap rank q in omega arith

        kept' : (p : ℕ) → (p < n → r + 1 ≤ rank p) → t.labels p ≡ old p
        kept' p f = others p (λ q. let w = ap rank q in let z : p < n = omega arith in let v = f z in omega arith) ∙ pr.kept p (λ l. let v = f l in omega arith)

        done' : Done k h e old t.labels x → (p : ℕ) → p < n → rank p < r + 1 → Done k h e old t.labels p
        done' here p l m =
            ⊎_elim {C = Done k h e old t.labels p}
            (λ low. done_moves s.labels t.labels p (near p m) (others p (not_x p low)) (pr.done p l low))
            (λ q. subst (Done k h e old t.labels) (sym q) here)
            (lower p l m)

        told_low : (p : ℕ) → Has s.told p → (p < n) × (rank p < r + 1) × Reported h e old t.labels p
        told_low p i =
            let f = pr.listed p i in
            let m : rank p < r + 1 = omega (arith, f.1) in
            (f.0, m, reported_moves s.labels t.labels p (near p m) f.2)

        low_told : (p : ℕ) → p < n → rank p < r → Reported h e old t.labels p → Has s.told p
        low_told p l low f =
            let m : rank p < r + 1 = omega arith in
            pr.lists p l low (reported_moves t.labels s.labels p (λ q a i. sym (near p m q a i)) f)

        -- the marks tell what changed, and so does the count
        abbrev Tally : Type 0
        Tally =
            ((p : ℕ) → p < n → t.marks p ≡ 1 → Changed old t.labels p) × ((p : ℕ) → p < n → ¬ (t.marks p ≡ 1) → t.labels p ≡ old p) ×
            ((cs : List ℕ) × ((p : ℕ) → Has cs p ↔ Changed old t.labels p) × Rising rank cs × (length cs ≡ t.changed))

        tally : Same s t ⊎ Turned x s t → Tally
        tally (inl m) = (
          λ p l one c. pr.marked p l (sym (m.marks p) ∙ one) (sym (m.labels p) ∙ c),
          λ p l f. m.labels p ∙ pr.unmarked p l (λ one. f (m.marks p ∙ one)),
          (
            pr.turned,
            λ p. (λ i c. (pr.turned_those p).0 i (sym (m.labels p) ∙ c), λ c. (pr.turned_those p).1 (λ i. c (m.labels p ∙ i))),
            pr.turned_rising,
            pr.turned_size ∙ sym m.count,
          ),
        )
        tally (inr m) =
            let here : Changed old t.labels x = λ c. m.label (c ∙ sym was) in (
              λ p l one. ⊎_elim {C = Changed old t.labels p} (λ q. subst (Changed old t.labels) (sym q) here)
                  (λ ne c. pr.marked p l (sym (m.marks.other p ne) ∙ one) (sym (others p ne) ∙ c)) (cases_eq p x),
              λ p l f. ⊎_elim {C = t.labels p ≡ old p} (λ q. absurd (f (ap t.marks q ∙ m.marks.here)))
                  (λ ne. others p ne ∙ pr.unmarked p l (λ one. f (m.marks.other p ne ∙ one))) (cases_eq p x),
              (
                pr.turned ++ (x ∷ []),
                λ p. (
                  λ i. ⊎_elim {C = Changed old t.labels p}
                      (λ j c. let b = (pr.turned_those p).0 j in b (sym (others p (not_x p (changed_low p b).1)) ∙ c))
                      (λ q. subst (Changed old t.labels) q here)
                      (has_push_cases pr.turned x p i),
                  λ c. ⊎_elim {C = Has (pr.turned ++ (x ∷ [])) p}
                      (λ q. subst (Has (pr.turned ++ (x ∷ []))) (sym q) (has_push pr.turned x))
                      (λ ne. has_append_left pr.turned (x ∷ []) p ((pr.turned_those p).1 (λ i. c (others p ne ∙ i))))
                      (cases_eq p x),
                ),
                rising_push rank pr.turned x pr.turned_rising (λ p i. let l = (changed_low p ((pr.turned_those p).0 i)).1 in omega arith),
                length_push pr.turned x ∙ ap (λ (c : ℕ). c + 1) pr.turned_size ∙ sym m.count,
              ),
            )

      unreported_x : Stands h e old t.labels x → Reported h e old t.labels x → ⊥
      unreported_x d (inl q) = d.other q
      unreported_x d (inr (q, a, m, c)) = c (d.sources q a m)

      passed : Passed h edited x s t → Progress k h rank n e old (r + 1) t
      passed d =
          let others : (q : ℕ) → ¬ (q ≡ x) → t.labels q ≡ s.labels q = λ q ne. d.same.labels q in
          let here : Stands h e old t.labels x =
          record { kept = d.same.labels x ∙ was; other = no' d.other; sources = λ u a m. d.same.labels u ∙ pr.unmarked u (inside u x a m).0 (d.unfed u a m) } in
          let sums = tally others (inl d.same) in
          record {
            kept = kept' others;
            marked = sums.0;
            unmarked = sums.1;
            done = done' others (inr here);
            listed = λ p i. told_low others p (subst (λ (ps : List ℕ). Has ps p) d.told i);
            lists = λ p l m f.
                ⊎_elim {C = Has t.told p} (λ low. subst (λ (ps : List ℕ). Has ps p) (sym d.told) (low_told others p l low f))
                (λ q. absurd (unreported_x here (subst (Reported h e old t.labels) q f))) (lower p l m);
            rising = subst (Rising rank) (sym d.told) pr.rising;
            turned = sums.2.0;
            turned_those = sums.2.1;
            turned_rising = sums.2.2;
            turned_size = sums.2.3;
          }

      redone : Redone k h edited x s t → Progress k h rank n e old (r + 1) t
      redone d =
          let others = d.label.other in
          let near_x = near others x (omega arith) in
          let told : Reported h e old t.labels x =
          ⊎_elim {C = Reported h e old t.labels x} (λ y. inl (yes' y)) (λ f. inr (f.0, f.1, f.2, λ c. pr.marked f.0 (inside f.0 x f.1 f.2).0 f.3 (sym (near_x f.0 f.1 f.2) ∙ c))) d.cause in
          let bal : BalancedAt k h t.labels x =
          d.label.here ∙ ap (k.join (h.own x)) (inflow_eq laws s.labels t.labels h x (λ u a m. sym (near_x u a m))) in
          let sums = tally others d.marks in
          record {
            kept = kept' others;
            marked = sums.0;
            unmarked = sums.1;
            done = done' others (inl (told, bal));
            listed = λ p i.
                ⊎_elim {C = (p < n) × (rank p < r + 1) × Reported h e old t.labels p} (λ j. told_low others p j)
                (λ q. subst (λ (p : ℕ). (p < n) × (rank p < r + 1) × Reported h e old t.labels p) q (in', omega arith, told))
                (has_push_cases s.told x p (subst (λ (ps : List ℕ). Has ps p) d.told i));
            lists = λ p l m f.
                subst (λ (ps : List ℕ). Has ps p) (sym d.told)
                (⊎_elim {C = Has (s.told ++ (x ∷ [])) p} (λ low. has_append_left s.told (x ∷ []) p (low_told others p l low f))
                (λ q. subst (Has (s.told ++ (x ∷ []))) (sym q) (has_push s.told x)) (lower p l m));
            rising = subst (Rising rank) (sym d.told) (rising_push rank s.told x pr.rising (λ p i. let l = (pr.listed p i).1 in omega arith));
            turned = sums.2.0;
            turned_those = sums.2.1;
            turned_rising = sums.2.2;
            turned_size = sums.2.3;
          }

      -- one step more
      pub stepped : Stepped k h edited x s t → Progress k h rank n e old (r + 1) t
      stepped (inl d) = passed d
      stepped (inr d) = redone d
