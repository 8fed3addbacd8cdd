-- What a table says of its first places, as it is read, written and cleared. Assumes nothing.
use Rattle.std.proofs.Common.{◌≡◌, ℕ, zero, suc, ◌<◌, ◌≤◌, List, map, length, get_or, take, set, replicate, sym, refl, ap, ◌∙◌, subst, ⊎_elim, arith}
use lib.Seq.{take-set-lt}
use Rattle.std.proofs.lemmas.List.{length-map, length-take, get_or-map, get_or-take, get_or_default, get_or-replicate, get_or-set_same, get_or-set_other, map-set, same_lists}
use Rattle.std.proofs.lemmas.Bool.{cases_eq}
use Rattle.common.specs.declared.number.PlaceNumber.{PlaceNumber}
use Rattle.paths.specs.Calls.{put}
use Rattle.paths.specs.Order.{upto}
use Rattle.paths.proofs.Calls.{put_other, put_there}
use Rattle.paths.proofs.Permutes.{upto_length, first_ranked}
use Rattle.order.specs.Marks.{Clean}
use Rattle.order.specs.Tables.{place_in, order_in}
use Rattle.tables.specs.Fill.{Filled}
use Rattle.tables.specs.Columns.{column}

module _ {X Y : Type 0} (f : X → Y) (d : Y) (n : ℕ) where
  wide : (xs : List X) (p : ℕ) → p < n → p < length xs → p < length (map f (take n xs))
  wide xs p l m = let a = length-map (take n xs) f in let b = length-take n xs in omega arith

  pub column_at : (xs : List X) (p : ℕ) (e : X) → p < n → p < length xs → column f d n xs p ≡ f (get_or xs p e)
  column_at xs p e l m = let a = length-take n xs in get_or-map f (take n xs) p e d (omega arith) ∙ ap f (get_or-take n xs p e l)

  put_in : (ys : List Y) (p : ℕ) (y : Y) → p < length ys → (q : ℕ) → get_or (set ys p y) q d ≡ put (λ j. get_or ys j d) p y q
  put_in ys p y l q =
      let old : ℕ → Y = λ j. get_or ys j d in
      ⊎_elim {C = get_or (set ys p y) q d ≡ put old p y q}
      (λ e. subst (λ (j : ℕ). get_or (set ys p y) j d ≡ put old p y j) (sym e) (get_or-set_same ys p y d l ∙ sym (put_there old p y)))
      (λ other. get_or-set_other ys p q y d other ∙ put_other old p y q other)
      (cases_eq q p)

  -- a write at p changes what is said of p alone
  pub column_set : (xs : List X) (p : ℕ) (x : X) → p < n → p < length xs → (q : ℕ) → column f d n (set xs p x) q ≡ put (column f d n xs) p (f x) q
  column_set xs p x l m q =
      ap (λ (ys : List Y). get_or ys q d) (ap (map f) (take-set-lt n xs p x l) ∙ map-set f (take n xs) p x) ∙ put_in (map f (take n xs)) p (f x) (wide xs p l m) q

  flat : (k : ℕ) (x : X) → f x ≡ d → (p : ℕ) → get_or (map f (replicate k x)) p d ≡ d
  flat zero x e p = refl
  flat (suc k) x e zero = e
  flat (suc k) x e (suc p) = flat k x e p

  -- rows that all say d
  pub column_flat : (xs : List X) (x : X) → take n xs ≡ replicate n x → f x ≡ d → (p : ℕ) → column f d n xs p ≡ d
  column_flat xs x e h p = ap (λ (ys : List X). get_or (map f ys) p d) e ∙ flat n x h p

-- zeros in front
pub filled_clean : (n : ℕ) (old new : List ℕ) → Filled n 0 old new → Clean n new
filled_clean n old new f k l = sym (get_or-take n new k 0 l) ∙ ap (λ (ys : List ℕ). get_or ys k 0) f.front ∙ get_or-replicate n k 0 0 l

-- places that stand at their own numbers
pub first_order : (n : ℕ) (places : List PlaceNumber) → n ≤ length places → ((r : ℕ) → r < n → place_in places r ≡ r) → order_in n places ≡ upto n
first_order n places wide at =
    let ps : List ℕ = map (λ (p : PlaceNumber). p.0) places in
    let size = upto_length n in
    let long = length-map places (λ (p : PlaceNumber). p.0) in
    let cut = length-take n ps in
    same_lists (take n ps) (upto n) (omega arith)
    (λ k d l.
    let low : k < n = omega arith in
    let in' : k < length ps = omega arith in
    let up : k < length (upto n) = omega arith in
    get_or-take n ps k d low ∙ get_or_default ps k d 0 in' ∙ at k low ∙ sym ((first_ranked n).at k up) ∙ get_or_default (upto n) k 0 d up)
