-- An empty table, and a link taken out of its slot. Assumes nothing.
use Rattle.std.proofs.Common.{◌≡◌, ℕ, suc, ◌+◌, ◌-◌, ◌<◌, ◌≤◌, List, [], ◌∷◌, length, get_or, set, Some, None, Option, sym, refl, ap, ◌∙◌, ⊎_elim, add-one, arith, below_more, get_or-set_other, get_or-set_same}
use lib.ListN.{length-map}
use Rattle.std.proofs.lemmas.Bool.{cases_lt}
use Rattle.links.specs.declared.row.LinkRow.{LinkRow}
use Rattle.links.specs.declared.row.LinkRow.TheVariants.{Unused}
use Rattle.links.specs.declared.row.Heads.{Heads}
use Rattle.links.specs.declared.row.Side.{Side}
use Rattle.links.specs.declared.row.Side.TheVariants.{Leaving, Entering}
use Rattle.links.specs.Threads.{Sorted}
use Rattle.links.specs.declared.row.Link.{Link}
use Rattle.links.specs.Table.{Shape, at, view, head_of, link_at, linked, somes, links, Sound, Free, Stacked, Headless, Taken, as_link}
use Rattle.links.proofs.Rows.{none_dead, at_same, at_other}
use Rattle.links.proofs.Held.{dead_none, link_live, none_some}

somes_none : {X : Type 0} (os : List (Option X)) → ((k : ℕ) → get_or os k None ≡ None) → somes os ≡ []
somes_none [] h = refl
somes_none (None ∷ os) h = somes_none os (λ k. h (suc k))
somes_none (Some x ∷ os) h = absurd (none_some x (sym (h 0)))

head_none : (side : Side) (n : ℕ) → head_of side (record { leaving = record { 0 = n }; entering = record { 0 = n } }) ≡ n
head_none Leaving n = refl
head_none Entering n = refl

pub stacked_more : {R : Type 0} (rows : List (LinkRow R)) (k b : ℕ) → Stacked rows k → k < length rows → b ≡ k - 1 → Stacked (set rows k (Unused k (record { 0 = b }))) (k + 1)
stacked_more rows k b st l e =
    let y = Unused k (record { 0 = b }) in
    let here = at_same rows k y l in
    below_more (λ j. ((at (set rows k y) j).unused ≡ j + 1) × ((at (set rows k y) j).leaving ≡ j - 1)) k
    (λ j h.
    let there = at_other rows k j y (omega arith) in
    let i = st j h in
    (ap (λ (z : Shape). z.unused) there ∙ i.0, ap (λ (z : Shape). z.leaving) there ∙ i.1))
    (ap (λ (z : Shape). z.unused) here ∙ sym (add-one k), ap (λ (z : Shape). z.leaving) here ∙ e)

module _ {R : Type 0} (rows : List (LinkRow R)) (n : ℕ) (stacked : Stacked rows n) (all : length rows ≤ n) where
  st : Stacked rows (length rows)
  st k l = stacked k (omega arith)

  all_dead : (k : ℕ) → (at rows k).unused ≡ 0 → ⊥
  all_dead k d = ⊎_elim {C = ⊥} (λ l. let s = st k l in omega (arith, s.0)) (λ ge. none_dead rows k ge d) (cases_lt k (length rows))

  all_free : Free (length rows) (λ k. (at rows k).unused) (λ k. (at rows k).leaving) 0 (length rows - 1)
  all_free = record {
    within = omega arith;
    top = λ l. let i : length rows - 1 < length rows = omega arith in let s = st (length rows - 1) i in (i, omega (arith, s.0));
    depth = λ k l. let s = st k l in omega (arith, s.0);
    under = λ k l m.
        let s = st k l in
        let b : (at rows k).leaving < length rows = omega (arith, s.1) in
        let s' = st (at rows k).leaving b in
        (b, omega (arith, s.0, s.1, s'.0));
    apart = λ j k lj lk z e. let s = st j lj in let s' = st k lk in omega (arith, s.0, s'.0);
  }

  pub no_links : links rows ≡ []
  no_links = somes_none (linked rows) (λ k. dead_none rows k (all_dead k))

  module _ (heads : List Heads) (none : ℕ) (no_slot : none ≡ length rows) (hl : Headless heads none (length heads)) where
    no_threads : (side : Side) → Sorted (view side rows heads) (length heads)
    no_threads side = record {
      first = λ p l.
          let e = ap (head_of side) (hl p l) ∙ head_none side none in
          record { here = λ i. absurd (omega arith); least = λ j d h le. absurd (all_dead j d) };
      later = λ k d. absurd (all_dead k d);
    }

    pub cleared : Sound rows heads 0 (length rows - 1)
    cleared = record {
      inside = λ k d. absurd (all_dead k d);
      leaving = no_threads Leaving;
      entering = no_threads Entering;
      single = λ j k d. absurd (all_dead j d);
      unused = all_free;
      counted = ap length no_links;
    }

pub taken_same : {R : Type 0} (rows rows' : List (LinkRow R)) (s : ℕ) (l : Link R) → Taken rows rows' s → link_at rows s ≡ Some l → link_at rows' s ≡ None
taken_same rows rows' s l t e = ap (λ os. get_or os s None) t.taken ∙ get_or-set_same (linked rows) s None None (rw (length-map rows as_link) (link_live rows s l e).0)

pub taken_other : {R : Type 0} (rows rows' : List (LinkRow R)) (s k : ℕ) → Taken rows rows' s → (k ≡ s → ⊥) → link_at rows' k ≡ link_at rows k
taken_other rows rows' s k t ne = ap (λ os. get_or os k None) t.taken ∙ get_or-set_other (linked rows) s k None None ne
