-- An edit of the tables is an edit of what they say. Assumes nothing.
use Rattle.std.proofs.Common.{◌≡◌, ℕ, ◌<◌, ◌≤◌, ◌⊎◌, List, map, length, get_or, take, filter, sym, ap, ◌∙◌, subst, inl, inr, ⊎_elim, arith}
use lib.ListN.{length-map}
use Rattle.std.proofs.ByRecursion.{has_get_or}
use Rattle.std.proofs.lemmas.List.{length-take-le}
use Rattle.std.proofs.lemmas.Bool.{cases_eq, cases_lt}
use Rattle.common.specs.declared.number.PlaceNumber.{PlaceNumber}
use Rattle.common.specs.declared.number.Rank.{Rank}
use Rattle.paths.specs.Kind.{Kind, Laws}
use Rattle.paths.specs.Ledger.{Link, Ledger, Leads, Inside, AreJoins}
use Rattle.paths.specs.Edits.{Edited}
use Rattle.paths.specs.Order.{rank_in}
use Rattle.paths.specs.Reports.{Reported}
use Rattle.paths.specs.Walk.{Put, Recomputed}
use Rattle.paths.specs.Calls.{put}
use Rattle.paths.proofs.Calls.{put_other, put_there}
use Rattle.paths.proofs.Exists.{joins_balance}
use Rattle.paths.proofs.Permutes.{ranked_one}
use Rattle.kinds.specs.Meanings.{Meaning}
use Rattle.links.specs.declared.row.Link.{Link as Row}
use Rattle.links.specs.Theory.{Alike}
use Rattle.law.specs.State.{Same}
use Rattle.law.proofs.Orders.{whole_from}
use Rattle.order.specs.Tables.{order_in, Sound}
use Rattle.order.specs.Tables as table
use Rattle.recompute.specs.Tables.{numbers, value_in, arrows_in, Held, Recomputes}
use Rattle.recompute.proofs.Grounds.{within}

-- the same report by other ranks that agree on the first n places
other_ranks : {V P : Type 0} (k : Kind V P) (h : Ledger V P) (n e : ℕ) → Inside n h.links → e < n → (a b : ℕ → ℕ) → ((p : ℕ) → p < n → a p ≡ b p) →
    (old new : ℕ → V) (told : List ℕ) (counts : ℕ × ℕ) → Recomputed k h a e old new told counts → Recomputed k h b e old new told counts
other_ranks {V} {P} k h n e inside low a b same old new told counts r =
    let below : (p : ℕ) → Reported h e old new p → p < n = λ p. ⊎_elim (λ q. omega arith) (λ d. (inside d.0 p d.1 d.2).1) in
    let at : (i : ℕ) → i < length told → a (get_or told i 0) ≡ b (get_or told i 0) =
    λ i l. same (get_or told i 0) (below (get_or told i 0) ((r.report.those (get_or told i 0)).0 (has_get_or told i 0 l))) in
    record {
      balanced = r.balanced;
      joins = r.joins;
      report = record {
        those = r.report.those;
        rising = λ i j l m. let x = r.report.rising i j l m in let y = at i (omega arith) in let z = at j m in omega arith;
      };
      first = r.first;
      second = r.second;
    }

module _ {L P R S : Type 0} (m : Meaning L P R S) (laws : Laws m.kind) (n : ℕ) (own : List R) (rows : List (Row S)) (ranks : List Rank) (places : List PlaceNumber) (sound : Sound n ranks places rows) where
  pub size : length (order_in n places) ≡ n
  size = length-take-le n (map (λ (p : PlaceNumber). p.0) places) (rw (length-map places (λ (p : PlaceNumber). p.0)) sound.wide)

  same_rank : (p : ℕ) → p < n → table.rank_in ranks p ≡ rank_in (order_in n places) p
  same_rank p l = ranked_one (order_in n places) (table.rank_in ranks) (rank_in (order_in n places)) sound.ranked (whole_from (table.rank_in ranks) (order_in n places) sound.ranked) p (omega (arith, size))

  -- g before and h after an edit at e: h has the own labels and links of the tables
  pub settled : (g h : Ledger m.Value P) (rank : ℕ → ℕ) → ((u v : ℕ) (t : P) → Leads g.links u v t → rank u < rank v) → (e : ℕ) → e < n → ((p : ℕ) → h.own p ≡ value_in m n own p) → h.links ≡ arrows_in m rows → Edited g h e →
      (before after : List R) (list : List PlaceNumber) (counts : ℕ × ℕ) → Recomputes m n own rows ranks e before after list counts →
      AreJoins m.kind g (value_in m n before) → Recomputed m.kind h (rank_in (order_in n places)) e (value_in m n before) (value_in m n after) (numbers (take counts.0 list)) counts
  settled g h rank up e low mine eq edited before after list counts recomputes joins =
      let held : Held m n own rows h =
      λ p. record { own = sym (mine p); links = λ u t. (subst (λ (ls : List (Link P)). Leads ls u p t) (sym eq), subst (λ (ls : List (Link P)). Leads ls u p t) eq) } in
      let inside : Inside n h.links = subst (Inside n) (sym eq) (within m n ranks rows sound.inside) in
      other_ranks m.kind h n e inside low (table.rank_in ranks) (rank_in (order_in n places)) same_rank (value_in m n before) (value_in m n after) (numbers (take counts.0 list)) counts
      (recomputes g h (joins_balance laws g rank up (value_in m n before) joins) edited held)

-- what is written at p, as the ledger has it
pub put_is : {X : Type 0} (old new : ℕ → X) (p : ℕ) (x : X) → Put old new p x → (q : ℕ) → new q ≡ put old p x q
put_is old new p x w q =
    ⊎_elim {C = new q ≡ put old p x q}
    (λ e. subst (λ (j : ℕ). new j ≡ put old p x j) (sym e) (w.here ∙ sym (put_there old p x)))
    (λ other. w.other q other ∙ put_other old p x q other)
    (cases_eq q p)

-- an edit to a ledger that says the same
pub edited_through : {V P : Type 0} (g g' h : Ledger V P) (e : ℕ) → Edited g g' e → Same h g' → Edited g h e
edited_through g g' h e edited same q other =
    let a = edited q other in
    record { own = a.own ∙ sym (same.own q); links = λ u t. (λ i. (same.links u q t).1 ((a.links u t).0 i), λ i. (a.links u t).1 ((same.links u q t).0 i)) }

-- a ledger whose links are those of the tables, compared with one whose links are alike
pub same_by : {V P : Type 0} (g h : Ledger V P) (ls : List (Link P)) → ((p : ℕ) → h.present p ≡ g.present p) → ((p : ℕ) → h.own p ≡ g.own p) → h.links ≡ ls → Alike ls g.links → Same h g
same_by {V} {P} g h ls present own are alike =
    record {
      present = present;
      own = own;
      links = λ u v t. (λ i. (alike.members u v t).0 (subst (λ (xs : List (Link P)). Leads xs u v t) are i), λ i. subst (λ (xs : List (Link P)). Leads xs u v t) (sym are) ((alike.members u v t).1 i));
      number = λ test. ap (λ (xs : List (Link P)). length (filter test xs)) are ∙ alike.number test;
    }

pub alike_eq : {P : Type 0} (xs ys : List (Link P)) → xs ≡ ys → Alike xs ys
alike_eq {P} xs ys e =
    record {
      members = λ u v t. (subst (λ (zs : List (Link P)). Leads zs u v t) e, subst (λ (zs : List (Link P)). Leads zs u v t) (sym e));
      number = λ test. ap (λ (zs : List (Link P)). length (filter test zs)) e;
    }

-- a store that has one of two places has some
pub elim_some : (n u : ℕ) {v : ℕ} → ((n ≤ u) ⊎ (n ≤ v) → ⊥) → 0 < n
elim_some n u h = ⊎_elim (λ l. omega arith) (λ l. absurd (h (inl l))) (cases_lt u n)

pub elim_low : (n v u : ℕ) → ((n ≤ u) ⊎ (n ≤ v) → ⊥) → v < n
elim_low n v u h = ⊎_elim (λ l. l) (λ l. absurd (h (inr l))) (cases_lt v n)

pub elim_high : (n v u : ℕ) → ((n ≤ u) ⊎ (n ≤ v) → ⊥) → u < n
elim_high n v u h = ⊎_elim (λ l. l) (λ l. absurd (h (inl l))) (cases_lt u n)
