-- A walk begins at the edited place, passes over the ranks above the last marked place, and ends with the edit's labels, report and counts. Assumes nothing.
use Rattle.std.proofs.Common.{◌≡◌, ℕ, zero, suc, ◌+◌, ◌<◌, ◌≤◌, List, length, get_or, take, set, sym, refl, ap, ◌∙◌, subst, inl, ⊎_elim, arith}
use lib.ListN.{length-map}
use Rattle.std.proofs.lemmas.List.{get_or-set_same, get_or-set_other, length-take-le}
use Rattle.std.proofs.lemmas.Bool.{cases_eq}
use Rattle.common.specs.declared.number.PlaceNumber.{PlaceNumber}
use Rattle.common.specs.declared.number.Rank.{Rank}
use Rattle.paths.specs.Kind.{Laws}
use Rattle.paths.proofs.Progress.{begun, ended}
use Rattle.paths.proofs.Joins.{fixed_is_join}
use Rattle.paths.proofs.Agree.{edited_agrees, answer_agrees}
use Rattle.kinds.specs.Meanings.{Meaning}
use Rattle.links.specs.declared.row.Link.{Link}
use Rattle.order.specs.Marks.{Clean}
use Rattle.order.specs.Tables.{rank_in, place_in, Sound}
use Rattle.recompute.specs.declared.climb.Climb.{Climb}
use Rattle.recompute.specs.Tables.{numbers, value_in, ledger_in, Recomputes}
use Rattle.recompute.specs.Pending.{Climbed}
use Rattle.order.proofs.Ways.{sound_rank}
use Rattle.recompute.proofs.Grounds.{place_low, place_rank, place_only, rising, within}
use Rattle.recompute.proofs.Steps.{passed}

module _ {L P R S : Type 0} (m : Meaning L P R S) (laws : Laws m.kind) (n : ℕ) (own : List R) (ranks : List Rank) (places : List PlaceNumber) (xs : List (Link S)) (sound : Sound n ranks places xs)
    (e : ℕ) (before : List R) (below : e < n) where
  -- where the edited place alone is marked
  pub starts : (last : Rank) (marks : List ℕ) (list : List PlaceNumber) → Clean n marks → n ≤ length marks → last.0 ≡ rank_in ranks e →
      Climbed m n own ranks xs e before (rank_in ranks e) (record { reported = 0; changed = 0; last = last }) before (set marks e 1) list
  starts last marks list clean long is =
      let here : get_or (set marks e 1) e 0 ≡ 1 = get_or-set_same marks e 1 0 (omega arith) in
      let there : (p : ℕ) → p < n → get_or (set marks e 1) p 0 ≡ 1 → p ≡ e =
      λ p b h. ⊎_elim (λ q. q) (λ ne. absurd (let z = sym (get_or-set_other marks e p 1 0 ne) ∙ h in let c = clean p b in omega arith)) (cases_eq p e) in
      record {
        changed = λ _. 0;
        progress = begun laws (ledger_in m n own xs) e (value_in m n before) (rank_in ranks) n (rising m n ranks xs sound.rising) (within m n ranks xs sound.inside) (rank_in ranks e) _ refl (λ p. refl) (λ p l. refl) refl refl;
        pending = record {
          marked = λ p b. (λ h. inl (there p b h), ⊎_elim (λ q. ap (λ (j : ℕ). get_or (set marks e 1) j 0) q ∙ here) (λ d. absurd (let z : ◌≡◌ {A = ℕ} 0 1 = d.3 in omega arith)));
          bound = λ p b h. let q = ap (rank_in ranks) (there p b h) in omega arith;
        };
      }

  -- no place of a rank from r on is marked
  pub skips : (r : ℕ) (climb : Climb) (labels : List R) (marks : List ℕ) (list : List PlaceNumber) → climb.last.0 < r → (i : ℕ) → r + i ≤ n →
      Climbed m n own ranks xs e before r climb labels marks list → Climbed m n own ranks xs e before (r + i) climb labels marks list
  skips r climb labels marks list past zero l w = subst (λ (k : ℕ). Climbed m n own ranks xs e before k climb labels marks list) (omega arith) w
  skips r climb labels marks list past (suc i) l w =
      let k = r + i in
      let h : k < n = omega arith in
      let v = skips r climb labels marks list past i (omega arith) w in
      let at = place_rank n ranks places xs sound k h in
      subst (λ (j : ℕ). Climbed m n own ranks xs e before j climb labels marks list) (omega arith)
      (passed m laws n own ranks xs e before (rising m n ranks xs sound.rising) (within m n ranks xs sound.inside) k (place_in places k) (place_low n ranks places xs sound k h) at
      (λ q b s. place_only n ranks places xs sound k q h b s) climb labels marks list
      (λ is. let b = v.pending.bound (place_in places k) (place_low n ranks places xs sound k h) is in omega arith) v)

  pub ends : (climb : Climb) (labels : List R) (marks : List ℕ) (list : List PlaceNumber) → climb.reported ≤ length list → Climbed m n own ranks xs e before n climb labels marks list →
      Recomputes m n own xs ranks e before labels list (climb.reported, climb.changed)
  ends climb labels marks list room w g h balanced edited held =
      let f = ledger_in m n own xs in
      let up = rising m n ranks xs sound.rising in
      let end = ended laws f e (value_in m n before) (rank_in ranks) n up (within m n ranks xs sound.inside) g _ (λ p b. sound_rank n ranks places xs sound p b) below balanced (edited_agrees f h held g e edited) w.progress in
      answer_agrees f h held laws (rank_in ranks) e (value_in m n before) (value_in m n labels) (numbers (take climb.reported list)) (climb.reported, climb.changed)
      (record {
        balanced = end.0;
        joins = fixed_is_join laws f (rank_in ranks) (value_in m n labels) up end.0;
        report = end.1;
        first = sym (length-map (take climb.reported list) (λ (p : PlaceNumber). p.0) ∙ length-take-le climb.reported list room);
        second = end.2;
      })
