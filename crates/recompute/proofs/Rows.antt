-- Reading and writing one entry of a table. Assumes nothing.
use Rattle.std.proofs.Common.{◌≡◌, ℕ, ◌+◌, ◌-◌, ◌<◌, ◌≤◌, List, [], ◌∷◌, ◌++◌, map, length, get_or, take, drop, set, sym, ap, ◌∙◌, subst, arith}
use lib.ListN.{length-map}
use lib.Seq.{take-set-lt}
use Rattle.std.proofs.lemmas.List.{map_push, map-set, take_more_set, get_or-map, get_or-take, get_or-set_same, get_or-set_other, length-take-le, drop-drop}
use Rattle.common.specs.declared.number.PlaceNumber.{PlaceNumber}
use Rattle.paths.specs.Walk.{Put}
use Rattle.kinds.specs.Meanings.{Meaning}
use Rattle.recompute.specs.Tables.{numbers, value_in}

pub one_told : (list : List PlaceNumber) (d : ℕ) (p : PlaceNumber) → d < length list → numbers (take (d + 1) (set list d p)) ≡ numbers (take d list) ++ (p.0 ∷ [])
one_told list d p l = ap numbers (take_more_set list d p l) ∙ map_push (λ (p : PlaceNumber). p.0) (take d list) p

-- what is the same from a on is so from b on
pub drop_further : {X : Type 0} (xs ys : List X) (a b : ℕ) → a ≤ b → drop a xs ≡ drop a ys → drop b xs ≡ drop b ys
drop_further xs ys a b l e =
    let same : a + (b - a) ≡ b = omega arith in
    subst (λ (i : ℕ). drop i xs ≡ drop i ys) same (sym (drop-drop (b - a) a xs) ∙ ap (drop (b - a)) e ∙ drop-drop (b - a) a ys)

module _ {L P R S : Type 0} (m : Meaning L P R S) where
  -- what is read of a table at a place
  pub value_read : (n : ℕ) (rows : List R) (i : ℕ) (row : R) → i < n → n ≤ length rows → row ≡ get_or rows i row → m.value (m.stands row) ≡ value_in m n rows i
  value_read n rows i row l k is =
      let f : R → m.Value = λ r. m.value (m.stands r) in
      let size = length-take-le n rows k in
      ap f is ∙ sym (get_or-map f (take n rows) i row m.kind.empty (omega arith) ∙ ap f (get_or-take n rows i row l))

  -- one entry is another one
  pub put_set : (n : ℕ) (rows : List R) (p : ℕ) (row : R) → p < n → n ≤ length rows → Put (value_in m n rows) (value_in m n (set rows p row)) p (m.value (m.stands row))
  put_set n rows p row l k =
      let f : R → m.Value = λ r. m.value (m.stands r) in
      let vs = map f (take n rows) in
      let size : length vs ≡ n = length-map (take n rows) f ∙ length-take-le n rows k in
      let eq : map f (take n (set rows p row)) ≡ set vs p (f row) = ap (map f) (take-set-lt n rows p row l) ∙ map-set f (take n rows) p row in
      record {
        here = ap (λ (xs : List m.Value). get_or xs p m.kind.empty) eq ∙ get_or-set_same vs p (f row) m.kind.empty (omega arith);
        other = λ q ne. ap (λ (xs : List m.Value). get_or xs q m.kind.empty) eq ∙ get_or-set_other vs p q (f row) m.kind.empty ne;
      }
