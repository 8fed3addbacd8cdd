-- What two steps set anew, one on each side, do to one side. Assumes nothing.
use Rattle.std.proofs.Common.{◌≡◌, ℕ, ◌<◌, ◌≤◌, List, length, get_or, set, sym, ap, ◌∙◌, ⊎_elim, arith, length-set}
use Rattle.std.proofs.lemmas.Bool.{cases_lt}
use Rattle.links.specs.declared.row.LinkRow.{LinkRow}
use Rattle.links.specs.declared.row.Heads.{Heads}
use Rattle.links.specs.declared.row.Side.{Side}
use Rattle.links.specs.declared.row.Side.TheVariants.{Leaving, Entering}
use Rattle.links.specs.Threads.{Gap, Bounded}
use Rattle.links.specs.Table.{Shape, shape, at, hub, key, next, head_of, no_heads, view, Spliced}
use Rattle.links.proofs.Rows.{at_same, at_other, none_dead}
use Rattle.links.proofs.Adds.{Added}
use Rattle.links.proofs.Drops.{Dropped}

pub record Own {R : Type 0} (side : Side) (rows rows' : List (LinkRow R)) (heads heads' : List Heads) (prev p s : ℕ) : Type 0 where
  pub kept : (k : ℕ) → ((at rows' k).unused ≡ (at rows k).unused) × ((at rows' k).source ≡ (at rows k).source) × ((at rows' k).target ≡ (at rows k).target)
  pub same_next : (k : ℕ) → (k ≡ prev → ⊥) → next side (at rows' k) ≡ next side (at rows k)
  pub behind : prev < length rows → next side (at rows' prev) ≡ s
  pub same_head : (q : ℕ) → (q ≡ p → ⊥) → head_of side (get_or heads' q no_heads) ≡ head_of side (get_or heads q no_heads)
  pub stays_head : prev < length rows → head_of side (get_or heads' p no_heads) ≡ head_of side (get_or heads p no_heads)
  pub new_head : length rows ≤ prev → head_of side (get_or heads' p no_heads) ≡ s

pub own_leaving : {R : Type 0} (a b c : List (LinkRow R)) (ha hb hc : List Heads) (prev p s prev₂ p₂ s₂ : ℕ) →
    Spliced Leaving a b ha hb prev p s → Spliced Entering b c hb hc prev₂ p₂ s₂ → Own Leaving a c ha hc prev p s
own_leaving a b c ha hb hc prev p s prev₂ p₂ s₂ f g = record {
  kept = λ k. ((g.kept k).0 ∙ (f.kept k).0, (g.kept k).1 ∙ (f.kept k).1, (g.kept k).2 ∙ (f.kept k).2);
  same_next = λ k ne. g.other_next k ∙ f.same_next k ne;
  behind = λ l. g.other_next prev ∙ f.behind l;
  same_head = λ q ne. g.other_head q ∙ f.same_head q ne;
  stays_head = λ l. g.other_head p ∙ f.stays_head l;
  new_head = λ l. g.other_head p ∙ f.new_head l;
}

pub own_entering : {R : Type 0} (a b c : List (LinkRow R)) (ha hb hc : List Heads) (prev p s prev₂ p₂ s₂ : ℕ) → length b ≡ length a →
    Spliced Leaving a b ha hb prev p s → Spliced Entering b c hb hc prev₂ p₂ s₂ → Own Entering a c ha hc prev₂ p₂ s₂
own_entering a b c ha hb hc prev p s prev₂ p₂ s₂ e f g = record {
  kept = λ k. ((g.kept k).0 ∙ (f.kept k).0, (g.kept k).1 ∙ (f.kept k).1, (g.kept k).2 ∙ (f.kept k).2);
  same_next = λ k ne. g.same_next k ne ∙ f.other_next k;
  behind = λ l. g.behind (omega arith);
  same_head = λ q ne. g.same_head q ne ∙ f.other_head q;
  stays_head = λ l. g.stays_head (omega arith) ∙ f.other_head p₂;
  new_head = λ l. g.new_head (omega arith);
}

hub_by : (side : Side) (x y : Shape) → (x.unused ≡ y.unused) × (x.source ≡ y.source) × (x.target ≡ y.target) → hub side x ≡ hub side y
hub_by Leaving x y e = e.1
hub_by Entering x y e = e.2

key_by : (side : Side) (x y : Shape) → (x.unused ≡ y.unused) × (x.source ≡ y.source) × (x.target ≡ y.target) → key side x ≡ key side y
key_by Leaving x y e = e.2
key_by Entering x y e = e.1

pub bounded : {R : Type 0} (side : Side) (rows : List (LinkRow R)) (heads : List Heads) → Bounded (view side rows heads)
bounded side rows heads k d = ⊎_elim {C = k < length rows} (λ l. l) (λ ge. absurd (none_dead rows k ge d)) (cases_lt k (length rows))

-- a row written over an unused one, then its thread led to it
pub own_added : {R : Type 0} (side : Side) (rows rows' : List (LinkRow R)) (heads heads' : List Heads) (prev p x s to : ℕ) (y : LinkRow R) →
    length rows' ≡ length rows → s < length rows → ((at rows s).unused ≡ 0 → ⊥) → (shape y).unused ≡ 0 → hub side (shape y) ≡ p → key side (shape y) ≡ x → next side (shape y) ≡ to →
    Gap (view side rows heads) p x prev to → Own side (set rows s y) rows' heads heads' prev p s → Added (view side rows heads) (view side rows' heads') p x prev to s
own_added side rows rows' heads heads' prev p x s to y len l spare live eh ek en gap o =
    let same = at_same rows s y l in
    let ls = length-set rows s y in
    let np : s ≡ prev → ⊥ = λ e. let i : prev < length rows = omega arith in spare (rw e (gap.way.behind i).0) in
    record {
      cap = len;
      spare = spare;
      inside = l;
      s_dead = (o.kept s).0 ∙ ap (λ (z : Shape). z.unused) same ∙ live;
      s_hub = hub_by side (at rows' s) (at (set rows s y) s) (o.kept s) ∙ ap (hub side) same ∙ eh;
      s_key = key_by side (at rows' s) (at (set rows s y) s) (o.kept s) ∙ ap (key side) same ∙ ek;
      s_next = o.same_next s np ∙ ap (next side) same ∙ en;
      same_dead = λ k ne. (o.kept k).0 ∙ ap (λ (z : Shape). z.unused) (at_other rows s k y ne);
      same_hub = λ k ne. hub_by side (at rows' k) (at (set rows s y) k) (o.kept k) ∙ ap (hub side) (at_other rows s k y ne);
      same_key = λ k ne. key_by side (at rows' k) (at (set rows s y) k) (o.kept k) ∙ ap (key side) (at_other rows s k y ne);
      same_next = λ k ne nk. o.same_next k nk ∙ ap (next side) (at_other rows s k y ne);
      behind = λ i. o.behind (rw ls i);
      same_head = o.same_head;
      stays_head = λ i. o.stays_head (rw ls i);
      new_head = λ i. o.new_head (rw ls i);
    }

-- a thread led past a row, then the row written over by an unused one
pub own_dropped : {R : Type 0} (side : Side) (rows rows' : List (LinkRow R)) (heads heads' : List Heads) (prev p s : ℕ) (z : LinkRow R) →
    length rows' ≡ length rows → (at rows s).unused ≡ 0 → hub side (at rows s) ≡ p → ((shape z).unused ≡ 0 → ⊥) →
    Gap (view side rows heads) p (key side (at rows s)) prev s → (prev ≡ s → ⊥) →
    Own side rows rows' heads heads' prev p (next side (at rows s)) → Dropped (view side rows heads) (view side (set rows' s z) heads') p prev s
own_dropped side rows rows' heads heads' prev p s z len live eh dead gap np o =
    let l : s < length rows = bounded side rows heads s live in
    let l' : s < length rows' = omega arith in
    let ls = length-set rows' s z in
    let same = at_same rows' s z l' in
    record {
      cap = ls ∙ len;
      live = live;
      s_hub = eh;
      gone = λ e. dead (sym (ap (λ (w : Shape). w.unused) same) ∙ e);
      same_dead = λ k ne. ap (λ (w : Shape). w.unused) (at_other rows' s k z ne) ∙ (o.kept k).0;
      same_hub = λ k ne. ap (hub side) (at_other rows' s k z ne) ∙ hub_by side (at rows' k) (at rows k) (o.kept k);
      same_key = λ k ne. ap (key side) (at_other rows' s k z ne) ∙ key_by side (at rows' k) (at rows k) (o.kept k);
      same_next = λ k ne nk. ap (next side) (at_other rows' s k z ne) ∙ o.same_next k nk;
      behind = λ i. ap (next side) (at_other rows' s prev z np) ∙ o.behind i;
      same_head = o.same_head;
      stays_head = o.stays_head;
      new_head = o.new_head;
    }
