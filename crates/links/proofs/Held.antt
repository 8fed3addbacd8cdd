-- Slots and links. Assumes nothing.
use Rattle.std.proofs.Common.{◌≡◌, ℕ, zero, suc, ◌<◌, ◌≤◌, List, [], ◌∷◌, length, get_or, set, Some, None, Option, sym, refl, ap, ◌∙◌, ⊎_elim, arith}
use Rattle.std.specs.List.{slice_get}
use Rattle.std.proofs.lemmas.Bool.{cases_lt}
use Rattle.links.specs.declared.row.LinkRow.{LinkRow}
use Rattle.links.specs.declared.row.LinkRow.TheVariants.{Used, Unused}
use Rattle.links.specs.declared.row.Link.{Link}
use Rattle.links.specs.Table.{Shape, shape, at, as_link, link_at, somes}

pub none_some : {X : Type 0} (x : X) → ◌≡◌ {A = Option X} None (Some x) → ⊥
none_some x e = let z : ◌≡◌ {A = ℕ} 0 1 = cc in omega arith

pub row_at : {R : Type 0} (rows : List (LinkRow R)) (k : ℕ) → k < length rows → (x : LinkRow R) × (at rows k ≡ shape x) × (link_at rows k ≡ as_link x)
row_at [] k l = absurd (omega arith)
row_at (x ∷ rows) zero l = (x, refl, refl)
row_at (x ∷ rows) (suc k) l = row_at rows k (omega arith)

-- a row that was read
pub row_got : {R : Type 0} (rows : List (LinkRow R)) (k : ℕ) (x : LinkRow R) → slice_get rows k ≡ Some x → (k < length rows) × (at rows k ≡ shape x) × (link_at rows k ≡ as_link x)
row_got [] k x e = absurd (none_some x e)
row_got (y ∷ rows) zero x e = let q : y ≡ x = cc in (omega arith, ap shape q, ap as_link q)
row_got (y ∷ rows) (suc k) x e = let r = row_got rows k x e in (omega (arith, r.0), r.1, r.2)

-- the link of a row in use
used : {R : Type 0} (x : LinkRow R) → (shape x).unused ≡ 0 → (l : Link R) × (as_link x ≡ Some l) × (l.source.0 ≡ (shape x).source) × (l.target.0 ≡ (shape x).target)
used (Used l h) e = (l, refl, refl, refl)
used (Unused n b) e = absurd (omega arith)

of_used : {R : Type 0} (x : LinkRow R) (l : Link R) → as_link x ≡ Some l → ((shape x).unused ≡ 0) × ((shape x).source ≡ l.source.0) × ((shape x).target ≡ l.target.0)
of_used (Used m h) l e = let q : m ≡ l = cc in (refl, ap (λ w. w.source.0) q, ap (λ w. w.target.0) q)
of_used (Unused n b) l e = absurd (none_some l e)

pub unused : {R : Type 0} (x : LinkRow R) → ((shape x).unused ≡ 0 → ⊥) → as_link x ≡ None
unused (Used l h) d = absurd (d refl)
unused (Unused n b) d = refl

-- the link of a slot in use
pub live_link : {R : Type 0} (rows : List (LinkRow R)) (k : ℕ) → k < length rows → (at rows k).unused ≡ 0 →
    (l : Link R) × (link_at rows k ≡ Some l) × (l.source.0 ≡ (at rows k).source) × (l.target.0 ≡ (at rows k).target)
live_link {R} rows k i d =
    let r = row_at rows k i in
    let u = used r.0 (sym (ap (λ (s : Shape). s.unused) r.1) ∙ d) in
    (u.0, r.2 ∙ u.1, u.2 ∙ ap (λ (s : Shape). s.source) (sym r.1), u.3 ∙ ap (λ (s : Shape). s.target) (sym r.1))

past_none : {R : Type 0} (rows : List (LinkRow R)) (k : ℕ) → length rows ≤ k → link_at rows k ≡ None
past_none [] k l = refl
past_none (x ∷ rows) zero l = absurd (omega arith)
past_none (x ∷ rows) (suc k) l = past_none rows k (omega arith)

-- the slot of a link
pub link_live : {R : Type 0} (rows : List (LinkRow R)) (k : ℕ) (l : Link R) → link_at rows k ≡ Some l →
    (k < length rows) × ((at rows k).unused ≡ 0) × ((at rows k).source ≡ l.source.0) × ((at rows k).target ≡ l.target.0)
link_live {R} rows k l e =
    let i : k < length rows = ⊎_elim {C = k < length rows} (λ i. i) (λ ge. absurd (none_some l (sym (past_none rows k ge) ∙ e))) (cases_lt k (length rows)) in
    let r = row_at rows k i in
    let u = of_used r.0 l (sym r.2 ∙ e) in
    (i, ap (λ (s : Shape). s.unused) r.1 ∙ u.0, ap (λ (s : Shape). s.source) r.1 ∙ u.1, ap (λ (s : Shape). s.target) r.1 ∙ u.2)

pub dead_none : {R : Type 0} (rows : List (LinkRow R)) (k : ℕ) → ((at rows k).unused ≡ 0 → ⊥) → link_at rows k ≡ None
dead_none {R} rows k d = ⊎_elim {C = link_at rows k ≡ None}
    (λ i.
    let r = row_at rows k i in
    r.2 ∙ unused r.0 (λ z. d (ap (λ (s : Shape). s.unused) r.1 ∙ z)))
    (λ ge. past_none rows k ge)
    (cases_lt k (length rows))

-- one more link, and one fewer
pub somes_put : {X : Type 0} (os : List (Option X)) (s : ℕ) (x : X) → s < length os → get_or os s None ≡ None → length (somes (set os s (Some x))) ≡ suc (length (somes os))
somes_put [] s x l e = absurd (omega arith)
somes_put (None ∷ os) zero x l e = refl
somes_put (Some y ∷ os) zero x l e = absurd (none_some y (sym e))
somes_put (None ∷ os) (suc s) x l e = somes_put os s x (omega arith) e
somes_put (Some y ∷ os) (suc s) x l e = ap suc (somes_put os s x (omega arith) e)

pub somes_take : {X : Type 0} (os : List (Option X)) (s : ℕ) (x : X) → get_or os s None ≡ Some x → suc (length (somes (set os s None))) ≡ length (somes os)
somes_take [] s x e = absurd (none_some x e)
somes_take (None ∷ os) zero x e = absurd (none_some x e)
somes_take (Some y ∷ os) zero x e = refl
somes_take (None ∷ os) (suc s) x e = somes_take os s x e
somes_take (Some y ∷ os) (suc s) x e = ap suc (somes_take os s x e)
