-- What a read of a slot says. Assumes nothing.
use Rattle.std.proofs.Common.{◌≡◌, ℕ, ◌<◌, List, length, set, None, Some, Option, IfSome, sym, ap, ◌∙◌, subst, ⊎_elim, arith, length-set}
use Rattle.std.specs.List.{slice_get}
use Rattle.std.proofs.lemmas.Bool.{cases_eq, cases_lt}
use Rattle.links.specs.declared.row.Link.{Link}
use Rattle.links.specs.declared.row.Heads.{Heads}
use Rattle.links.specs.declared.row.LinkRow.{LinkRow}
use Rattle.links.specs.declared.row.LinkRow.TheVariants.{Used}
use Rattle.links.specs.declared.row.Side.{Side}
use Rattle.links.specs.declared.row.Slot.{Slot}
use Rattle.links.specs.Table.{Shape, IsUsed, Spliced, at, key, next, head_of, link_at, key_of}
use Rattle.links.proofs.Cursors.{key_by}
use Rattle.links.proofs.Splices.{next_is}
use Rattle.links.proofs.Held.{row_got, live_link, none_some}
use Rattle.links.proofs.Rows.{none_dead, at_same, at_other}

-- the slot s holds the link l, with the heads h of the rest of its threads
pub record Got {R : Type 0} (rows : List (LinkRow R)) (s : ℕ) (l : Link R) (h : Heads) : Type 0 where
  pub here : s < length rows
  pub live : (at rows s).unused ≡ 0
  pub link : link_at rows s ≡ Some l
  pub source : l.source.0 ≡ (at rows s).source
  pub target : l.target.0 ≡ (at rows s).target
  pub key : (side : Side) → key_of side l ≡ key side (at rows s)
  pub goes : (side : Side) → head_of side h ≡ next side (at rows s)

pub got : {R : Type 0} (rows : List (LinkRow R)) (s : ℕ) (l : Link R) (h : Heads) → slice_get rows s ≡ Some (Used l h) → Got rows s l h
got {R} rows s l h e =
    let r = row_got rows s (Used l h) e in
    let source = ap (λ (z : Shape). z.source) (sym r.1) in
    let target = ap (λ (z : Shape). z.target) (sym r.1) in
    record {
      here = r.0;
      live = ap (λ (z : Shape). z.unused) r.1;
      link = r.2;
      source = source;
      target = target;
      key = λ side. key_by side l (at rows s) source target;
      goes = λ side. sym (next_is side l h) ∙ ap (next side) (sym r.1);
    }

-- no link is read where no link is
pub not_used : {R : Type 0} (rows : List (LinkRow R)) (s : ℕ) → link_at rows s ≡ None → (at rows s).unused ≡ 0 → ⊥
not_used rows s e d = ⊎_elim {C = ⊥} (λ i. let l = live_link rows s i d in none_some l.0 (sym e ∙ l.1)) (λ ge. none_dead rows s ge d) (cases_lt s (length rows))

-- a slot in use is still in use once a row was used, or a thread was led on
pub used_set : {R : Type 0} (rows : List (LinkRow R)) (s : ℕ) (l : Link R) (h : Heads) (q : Option Slot) → IfSome q (λ k. IsUsed rows k.0) → IfSome q (λ k. IsUsed (set rows s (Used l h)) k.0)
used_set rows s l h None u = tt
used_set rows s l h (Some k) u =
    let long = length-set rows s (Used l h) in
    let i : k.0 < length (set rows s (Used l h)) = omega (arith, u.0) in (
      i,
      ⊎_elim {C = (at (set rows s (Used l h)) k.0).unused ≡ 0}
          (λ e. let j : s < length rows = omega (arith, u.0) in subst (λ n. (at (set rows s (Used l h)) n).unused ≡ 0) (sym e) (ap (λ (z : Shape). z.unused) (at_same rows s (Used l h) j)))
          (λ ne. ap (λ (z : Shape). z.unused) (at_other rows s k.0 (Used l h) ne) ∙ u.1)
          (cases_eq k.0 s),
    )

pub used_spliced : {R : Type 0} (side : Side) (rows rows' : List (LinkRow R)) (heads heads' : List Heads) (prev p s : ℕ) (q : Option Slot) →
    Spliced side rows rows' heads heads' prev p s → length rows' ≡ length rows → IfSome q (λ k. IsUsed rows k.0) → IfSome q (λ k. IsUsed rows' k.0)
used_spliced side rows rows' heads heads' prev p s None sp e u = tt
used_spliced side rows rows' heads heads' prev p s (Some k) sp e u = (omega (arith, u.0), (sp.kept k.0).0 ∙ u.1)
