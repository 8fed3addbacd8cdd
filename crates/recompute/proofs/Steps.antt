-- What one step makes of a walk: a place that is not marked is passed over, and one that is marked is reported and recomputed. Assumes nothing.
use Rattle.std.proofs.Common.{◌≡◌, ℕ, ◌+◌, ◌<◌, ◌≤◌, true, eqb, ◌⊎◌, List, [], ◌∷◌, ◌++◌, get_or, take, sym, refl, ap, ◌∙◌, subst, inl, inr, ⊎_elim, arith}
use Rattle.std.specs.List.{ContainsAt as Has}
use Rattle.std.proofs.lemmas.Bool.{cases_eq, eqb-true, eqb-false, eq-eqb, ne_eqb, cond-true, cond-false}
use Rattle.common.specs.declared.number.PlaceNumber.{PlaceNumber}
use Rattle.common.specs.declared.number.Rank.{Rank}
use Rattle.paths.specs.Kind.{Laws}
use Rattle.paths.specs.Ledger.{Leads, Inside}
use Rattle.paths.specs.Equations.{Topological}
use Rattle.paths.specs.Calls.{put}
use Rattle.paths.specs.Walk.{State, Put, Stepped, Progress}
use Rattle.paths.proofs.Progress.{stepped}
use Rattle.kinds.specs.Meanings.{Meaning}
use Rattle.links.specs.declared.row.Link.{Link}
use Rattle.links.specs.Table as table
use Rattle.links.proofs.Ties.{leads_of, of_leads}
use Rattle.order.specs.Tables.{rank_in}
use Rattle.recompute.specs.declared.climb.Climb.{Climb}
use Rattle.recompute.specs.Tables.{numbers, value_in, arrows_in, ledger_in, gathered}
use Rattle.recompute.specs.Pending.{Due, Climbed}

pub put_here : (f : ℕ → ℕ) (p x : ℕ) → put f p x p ≡ x
put_here f p x = cond-true (eqb p p) x (f p) (eq-eqb p p refl)

pub put_other : (f : ℕ → ℕ) (p x q : ℕ) → (q ≡ p → ⊥) → put f p x q ≡ f q
put_other f p x q ne = cond-false (eqb q p) x (f q) (ne_eqb q p ne)

module _ {L P R S : Type 0} (m : Meaning L P R S) (laws : Laws m.kind) (n : ℕ) (own : List R) (ranks : List Rank) (xs : List (Link S)) (e : ℕ) (before : List R)
    (up : Topological (rank_in ranks) (arrows_in m xs)) (inside : Inside n (arrows_in m xs)) (r p : ℕ) (below : p < n) (at : rank_in ranks p ≡ r) (only : (q : ℕ) → q < n → rank_in ranks q ≡ r → q ≡ p) where
  -- a link of the table leads from one place to another
  leads_by : (u v : ℕ) → table.Leads xs u v → (t : P) × Leads (arrows_in m xs) u v t
  leads_by u v (l, h, s, t) = (
    m.leads l.passage,
    subst (λ (a : ℕ). Leads (arrows_in m xs) a v (m.leads l.passage)) s (subst (λ (b : ℕ). Leads (arrows_in m xs) l.source.0 b (m.leads l.passage)) t (leads_of m.leads xs l h)),
  )

  go : (s t : State m.Value) → Progress m.kind (ledger_in m n own xs) (rank_in ranks) n e (value_in m n before) r s → Stepped m.kind (ledger_in m n own xs) (eqb p e) p s t →
      Progress m.kind (ledger_in m n own xs) (rank_in ranks) n e (value_in m n before) (r + 1) t
  go s t w step = stepped laws (ledger_in m n own xs) e (value_in m n before) (rank_in ranks) n up inside r p below at only (eqb p e) (eqb-true p e) (eqb-false p e) s t w step

  -- a place that is not marked
  pub passed : (climb : Climb) (labels : List R) (marks : List ℕ) (list : List PlaceNumber) → (get_or marks p 0 ≡ 1 → ⊥) → Climbed m n own ranks xs e before r climb labels marks list →
      Climbed m n own ranks xs e before (r + 1) climb labels marks list
  passed climb labels marks list not_marked w =
      let due = (w.pending.marked p below).1 in
      record {
        changed = w.changed;
        progress = go _ _ w.progress (inl (record {
          other = ne_eqb p e (λ q. not_marked (due (inl q)));
          unfed = λ q x h c. not_marked (due (inr (q, x, h, c)));
          same = record { labels = λ q. refl; marks = λ q. refl; count = refl };
          told = refl;
        }));
        pending = w.pending;
      }

  cause : (climb : Climb) (labels : List R) (marks : List ℕ) (list : List PlaceNumber) (w : Climbed m n own ranks xs e before r climb labels marks list) → get_or marks p 0 ≡ 1 →
      (eqb p e ≡ true) ⊎ ((q : ℕ) × (x : P) × Leads (arrows_in m xs) q p x × (w.changed q ≡ 1))
  cause climb labels marks list w is = ⊎_elim (λ q. inl (eq-eqb p e q)) inr ((w.pending.marked p below).0 is)

  module _ (climb : Climb) (labels labels' : List R) (marks : List ℕ) (list list' : List PlaceNumber) (is : get_or marks p 0 ≡ 1)
      (relabelled : Put (value_in m n labels) (value_in m n labels') p (gathered m n own labels xs p))
      (told : numbers (take (climb.reported + 1) list') ≡ numbers (take climb.reported list) ++ (p ∷ []))
      (w : Climbed m n own ranks xs e before r climb labels marks list) where
    -- a marked place whose label stays
    pub stayed : labels' ≡ labels → Climbed m n own ranks xs e before (r + 1) (record { reported = climb.reported + 1; changed = climb.changed; last = climb.last }) labels' marks list'
    stayed same =
        record {
          changed = w.changed;
          progress = go _ _ w.progress (inr (record {
            cause = cause climb labels marks list w is;
            label = relabelled;
            told = told;
            marks = inl (record { labels = λ q. ap (λ (ls : List R). value_in m n ls q) same; marks = λ q. refl; count = refl });
          }));
          pending = w.pending;
        }

    -- a marked place whose label changed, and whose targets are marked
    module _ (marks' : List ℕ) (last : Rank) (differs : value_in m n labels' p ≡ value_in m n labels p → ⊥)
        (all : (l : Link S) → Has xs l → l.source.0 ≡ p → (get_or marks' l.target.0 0 ≡ 1) × (rank_in ranks l.target.0 ≤ last.0))
        (none_else : (q : ℕ) → (get_or marks' q 0 ≡ get_or marks q 0) ⊎ ((get_or marks' q 0 ≡ 1) × table.Leads xs p q))
        (rises : climb.last.0 ≤ last.0) where
      abbrev changed' : ℕ → ℕ
      changed' = put w.changed p 1

      stays_changed : (q : ℕ) → w.changed q ≡ 1 → changed' q ≡ 1
      stays_changed q c = ⊎_elim (λ i. ap changed' i ∙ put_here w.changed p 1) (λ ne. put_other w.changed p 1 q ne ∙ c) (cases_eq q p)

      stays_marked : (q : ℕ) → get_or marks q 0 ≡ 1 → get_or marks' q 0 ≡ 1
      stays_marked q h = ⊎_elim (λ s. s ∙ h) (λ b. b.0) (none_else q)

      due' : (q : ℕ) → q < n → get_or marks' q 0 ≡ 1 → Due (arrows_in m xs) e changed' q
      due' q b h =
          ⊎_elim
          (λ s. ⊎_elim inl (λ d. inr (d.0, d.1, d.2, stays_changed d.0 d.3)) ((w.pending.marked q b).0 (sym s ∙ h)))
          (λ d. let t = leads_by p q d.1 in inr (p, t.0, t.1, put_here w.changed p 1))
          (none_else q)

      marked' : (q : ℕ) → q < n → Due (arrows_in m xs) e changed' q → get_or marks' q 0 ≡ 1
      marked' q b (inl i) = stays_marked q ((w.pending.marked q b).1 (inl i))
      marked' q b (inr (x, t, h, c)) =
          ⊎_elim
          (λ i. let o = of_leads m.leads xs x q t h in subst (λ (j : ℕ). get_or marks' j 0 ≡ 1) o.3 (all o.0 o.1 (o.2 ∙ i)).0)
          (λ ne. stays_marked q ((w.pending.marked q b).1 (inr (x, t, h, sym (put_other w.changed p 1 x ne) ∙ c))))
          (cases_eq x p)

      bound' : (q : ℕ) → q < n → get_or marks' q 0 ≡ 1 → rank_in ranks q ≤ last.0
      bound' q b h =
          ⊎_elim
          (λ s. let k = w.pending.bound q b (sym s ∙ h) in omega arith)
          (λ (d : (get_or marks' q 0 ≡ 1) × table.Leads xs p q).
          let l = d.1.0 in
          subst (λ (j : ℕ). rank_in ranks j ≤ last.0) d.1.3 (all l d.1.1 d.1.2).1)
          (none_else q)

      pub turned : Climbed m n own ranks xs e before (r + 1) (record { reported = climb.reported + 1; changed = climb.changed + 1; last = last }) labels' marks' list'
      turned =
          record {
            changed = changed';
            progress = go _ _ w.progress (inr (record {
              cause = cause climb labels marks list w is;
              label = relabelled;
              told = told;
              marks = inr (record { label = differs; marks = record { here = put_here w.changed p 1; other = λ q ne. put_other w.changed p 1 q ne }; count = refl });
            }));
            pending = record { marked = λ q b. (due' q b, marked' q b); bound = bound' };
          }
