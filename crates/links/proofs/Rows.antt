-- What a read of a row says of its shape. Assumes nothing.
use Rattle.std.proofs.Common.{◌≡◌, ℕ, ◌<◌, ◌≤◌, List, map, length, get_or, set, None, sym, ap, ◌∙◌, subst, ⊎_elim, arith}
use lib.ListN.{length-map}
use Rattle.std.proofs.lemmas.Bool.{cases_eq}
use Rattle.std.proofs.lemmas.List.{get_or-map, get_or_past, get_or_default, map-set, get_or-set_same, get_or-set_other, set-get_or}
use Rattle.links.specs.declared.row.LinkRow.{LinkRow}
use Rattle.links.specs.declared.row.Heads.{Heads}
use Rattle.links.specs.Table.{Shape, shape, past, no_heads, at, as_link, linked, link_at}

pub read : {R : Type 0} (rows : List (LinkRow R)) (k : ℕ) (x : LinkRow R) → k < length rows → x ≡ get_or rows k x → at rows k ≡ shape x
read rows k x l e = get_or-map shape rows k x past l ∙ ap shape (sym e)

pub head_read : (heads : List Heads) (p : ℕ) (h : Heads) → p < length heads → h ≡ get_or heads p h → h ≡ get_or heads p no_heads
head_read heads p h l e = e ∙ get_or_default heads p h no_heads l

pub none : {R : Type 0} (rows : List (LinkRow R)) (k : ℕ) → length rows ≤ k → at rows k ≡ past
none rows k l = get_or_past (map shape rows) k past (rw (length-map rows shape) l)

pub none_dead : {R : Type 0} (rows : List (LinkRow R)) (k : ℕ) → length rows ≤ k → (at rows k).unused ≡ 0 → ⊥
none_dead rows k l e = let z = ap (λ (x : Shape). x.unused) (none rows k l) in omega arith

pub at_same : {R : Type 0} (rows : List (LinkRow R)) (i : ℕ) (y : LinkRow R) → i < length rows → at (set rows i y) i ≡ shape y
at_same rows i y l = ap (λ xs. get_or xs i past) (map-set shape rows i y) ∙ get_or-set_same (map shape rows) i (shape y) past (rw (length-map rows shape) l)

pub at_other : {R : Type 0} (rows : List (LinkRow R)) (i k : ℕ) (y : LinkRow R) → (k ≡ i → ⊥) → at (set rows i y) k ≡ at rows k
at_other rows i k y ne = ap (λ xs. get_or xs k past) (map-set shape rows i y) ∙ get_or-set_other (map shape rows) i k (shape y) past ne

-- what a write leaves as it was in its own row is as it was in every row
pub field_kept : {R : Type 0} (F : Shape → ℕ) (rows : List (LinkRow R)) (i : ℕ) (y : LinkRow R) → i < length rows → F (shape y) ≡ F (at rows i) → (k : ℕ) → F (at (set rows i y) k) ≡ F (at rows k)
field_kept F rows i y l e k = ⊎_elim {C = F (at (set rows i y) k) ≡ F (at rows k)}
    (λ q. subst (λ j. F (at (set rows i y) j) ≡ F (at rows j)) (sym q) (ap F (at_same rows i y l) ∙ e))
    (λ ne. ap F (at_other rows i k y ne))
    (cases_eq k i)

pub linked_kept : {R : Type 0} (rows : List (LinkRow R)) (i : ℕ) (y : LinkRow R) → as_link y ≡ link_at rows i → linked (set rows i y) ≡ linked rows
linked_kept {R} rows i y e = map-set as_link rows i y ∙ ap (set (linked rows) i) e ∙ set-get_or (linked rows) i None
