-- What stands before what, after the ranks are shared out again. Assumes nothing.
use Rattle.std.proofs.Common.{◌≡◌, ℕ, zero, suc, ◌<◌, Bool, true, false, cond, not, ◌⊎◌, ◌↔◌, List, [], ◌∷◌, ◌++◌, length, get_or, filter, sym, refl, ap, ◌∙◌, subst₂, inl, inr, ⊎_elim, arith, length-append}
use borrow.Author.Tests.{both_ways}
use Rattle.std.specs.List.{ContainsAt as Has}
use Rattle.std.proofs.ByRecursion.{has_append_left, has_append_right, has_get_or}
use Rattle.std.proofs.lemmas.List.Filters.{length-filter_both}
use Rattle.paths.specs.Order.{Ranked, Before, shared_out}
use Rattle.paths.proofs.Lists.{has_none, has_first, has_later, has_cases, has_kept}

pub has_append_cases : {X : Type 0} (xs ys : List X) (x : X) → Has (xs ++ ys) x → Has xs x ⊎ Has ys x
has_append_cases [] ys x h = inr h
has_append_cases (y ∷ xs) ys x h =
    ⊎_elim (λ e. inl (rw (← e) (has_first xs y))) (λ m. ⊎_elim (λ i. inl (has_later xs y x i)) inr (has_append_cases xs ys x m)) (has_cases (xs ++ ys) y x h)

pub before_has : (xs : List ℕ) (p q : ℕ) → Before xs p q → Has xs p × Has xs q
before_has [] p q b = absurd b
before_has (x ∷ xs) p q (inl h) = (rw (← h.0) (has_first xs x), has_later xs x q h.1)
before_has (x ∷ xs) p q (inr b) = let r = before_has xs p q b in (has_later xs x p r.0, has_later xs x q r.1)

pub before_left : (xs ys : List ℕ) (p q : ℕ) → Before xs p q → Before (xs ++ ys) p q
before_left [] ys p q b = absurd b
before_left (x ∷ xs) ys p q (inl h) = inl (h.0, has_append_left xs ys q h.1)
before_left (x ∷ xs) ys p q (inr b) = inr (before_left xs ys p q b)

pub before_right : (xs ys : List ℕ) (p q : ℕ) → Before ys p q → Before (xs ++ ys) p q
before_right [] ys p q b = b
before_right (x ∷ xs) ys p q b = inr (before_right xs ys p q b)

pub before_across : (xs ys : List ℕ) (p q : ℕ) → Has xs p → Has ys q → Before (xs ++ ys) p q
before_across [] ys p q h i = absurd (has_none p h)
before_across (x ∷ xs) ys p q h i = ⊎_elim (λ e. inl (e, has_append_right xs ys q i)) (λ m. inr (before_across xs ys p q m i)) (has_cases xs x p h)

pub before_cases : (xs ys : List ℕ) (p q : ℕ) → Before (xs ++ ys) p q → Before xs p q ⊎ ((Has xs p × Has ys q) ⊎ Before ys p q)
before_cases [] ys p q b = inr (inr b)
before_cases (x ∷ xs) ys p q (inl h) =
    ⊎_elim (λ i. inl (inl (h.0, i))) (λ i. inr (inl (rw (← h.0) (has_first xs x), i))) (has_append_cases xs ys q h.1)
before_cases (x ∷ xs) ys p q (inr b) =
    ⊎_elim (λ i. inl (inr i)) (⊎_elim (λ i. inr (inl (has_later xs x p i.0, i.1))) (λ i. inr (inr i))) (before_cases xs ys p q b)

pub before_kept : (test : ℕ → Bool) (xs : List ℕ) (p q : ℕ) → test p ≡ true → test q ≡ true → Before xs p q → Before (filter test xs) p q
before_kept test [] p q tp tq b = absurd b
before_kept test (x ∷ xs) p q tp tq (inl h) = rw (ap test h.0 ∙ tp) (inl (h.0, (has_kept test xs q).1 (h.1, tq)))
before_kept test (x ∷ xs) p q tp tq (inr b) = go (test x) (before_kept test xs p q tp tq b)
  where
    go : (t : Bool) → Before (filter test xs) p q → Before (cond t (x ∷ filter test xs) (filter test xs)) p q
    go true i = inr i
    go false i = i

has_part : {X : Type 0} (xs ys back : List X) (x : X) → (Has xs x → Has ys x) → Has (xs ++ back) x → Has (ys ++ back) x
has_part xs ys back x f h = ⊎_elim (λ i. has_append_left ys back x (f i)) (has_append_right ys back x) (has_append_cases xs back x h)

-- an order with a part exchanged for another still has what the other part has
has_exchanged : {X : Type 0} (front xs ys back : List X) (x : X) → (Has xs x → Has ys x) → Has (front ++ (xs ++ back)) x → Has (front ++ (ys ++ back)) x
has_exchanged front xs ys back x f h =
    ⊎_elim (has_append_left front _ x) (λ i. has_append_right front _ x (has_part xs ys back x f i)) (has_append_cases front (xs ++ back) x h)

-- and what stood before what still does, where it does in the part
before_exchanged : (front xs ys back : List ℕ) (p q : ℕ) → (Has xs p → Has ys p) → (Has xs q → Has ys q) → (Before xs p q → Before ys p q) →
    Before (front ++ (xs ++ back)) p q → Before (front ++ (ys ++ back)) p q
before_exchanged front xs ys back p q f g b h =
    ⊎_elim (before_left front _ p q)
    (⊎_elim (λ i. before_across front _ p q i.0 (has_part xs ys back q g i.1)) (λ i. before_right front _ p q (inner i)))
    (before_cases front (xs ++ back) p q h)
  where
    inner : Before (xs ++ back) p q → Before (ys ++ back) p q
    inner i =
        ⊎_elim (λ j. before_left ys back p q (b j))
        (⊎_elim (λ j. before_across ys back p q (f j.0) j.1) (before_right ys back p q))
        (before_cases xs back p q i)

pub has_shared : (marked : ℕ → Bool) (walk : List ℕ) (x : ℕ) → Has walk x → Has (shared_out marked walk) x
has_shared marked walk x h = go (marked x) refl
  where
    go : (b : Bool) → marked x ≡ b → Has (shared_out marked walk) x
    go true e = has_append_right _ (filter marked walk) x ((has_kept marked walk x).1 (h, e))
    go false e = has_append_left _ (filter marked walk) x ((has_kept (λ y. not (marked y)) walk x).1 (h, ap not e))

-- what stood before still does, unless the first is marked, the second is not and both are walked over
pub before_moved : (marked : ℕ → Bool) (front walk back : List ℕ) (p q : ℕ) → (marked p ≡ true → Has walk q → marked q ≡ true) →
    Before (front ++ (walk ++ back)) p q → Before (front ++ (shared_out marked walk ++ back)) p q
before_moved marked front walk back p q closed =
    before_exchanged front walk (shared_out marked walk) back p q (has_shared marked walk p) (has_shared marked walk q) (λ i. walked i (marked p) (marked q) refl refl)
  where
    walked : Before walk p q → (x y : Bool) → marked p ≡ x → marked q ≡ y → Before (shared_out marked walk) p q
    walked i true true e f = before_right _ (filter marked walk) p q (before_kept marked walk p q e f i)
    walked i false false e f = before_left _ (filter marked walk) p q (before_kept (λ x. not (marked x)) walk p q (ap not e) (ap not f) i)
    walked i false true e f =
        before_across _ (filter marked walk) p q ((has_kept (λ x. not (marked x)) walk p).1 ((before_has walk p q i).0, ap not e)) ((has_kept marked walk q).1 ((before_has walk p q i).1, f))
    walked i true false e f = absurd (both_ways (marked q) f (closed e (before_has walk p q i).1))

-- a place outside the marked set comes to stand before one in it
pub before_turned : (marked : ℕ → Bool) (front walk back : List ℕ) (p q : ℕ) → Has walk p → Has walk q → marked p ≡ false → marked q ≡ true →
    Before (front ++ (shared_out marked walk ++ back)) p q
before_turned marked front walk back p q h i e f =
    before_right front _ p q
    (before_left (shared_out marked walk) back p q
    (before_across _ (filter marked walk) p q ((has_kept (λ x. not (marked x)) walk p).1 (h, ap not e)) ((has_kept marked walk q).1 (i, f))))

before_index : (xs : List ℕ) (p q : ℕ) → Before xs p q → (i : ℕ) × (j : ℕ) × (i < j) × (j < length xs) × (get_or xs i 0 ≡ p) × (get_or xs j 0 ≡ q)
before_index [] p q b = absurd b
before_index (x ∷ xs) p q (inl h) = (0, suc h.1.0, omega arith, omega arith, h.0, h.1.2 0)
before_index (x ∷ xs) p q (inr b) = let r = before_index xs p q b in (suc r.0, suc r.1, omega arith, omega arith, r.4, r.5)

index_before : (xs : List ℕ) (i j : ℕ) → i < j → j < length xs → Before xs (get_or xs i 0) (get_or xs j 0)
index_before [] i j l h = absurd (omega arith)
index_before (x ∷ xs) i zero l h = absurd (omega arith)
index_before (x ∷ xs) zero (suc j) l h = inl (refl, has_get_or xs j 0 (omega arith))
index_before (x ∷ xs) (suc i) (suc j) l h = inr (index_before xs i j (omega arith) (omega arith))

pub rank_before : (rank : ℕ → ℕ) (order : List ℕ) → Ranked rank order → (p q : ℕ) → Before order p q → rank p < rank q
rank_before rank order r p q b =
    let i = before_index order p q b in
    let a : rank p ≡ i.0 = ap rank (sym i.4) ∙ r.at i.0 (omega arith) in
    let c : rank q ≡ i.1 = ap rank (sym i.5) ∙ r.at i.1 (omega arith) in
    omega arith

pub before_rank : (rank : ℕ → ℕ) (order : List ℕ) → Ranked rank order → (p q : ℕ) → p < length order → q < length order → rank p < rank q → Before order p q
before_rank rank order r p q a b l =
    let i = r.held p a in
    let j = r.held q b in
    subst₂ (Before order) i.1 j.1 (index_before order (rank p) (rank q) l j.0)

kept_before : (test : ℕ → Bool) (xs : List ℕ) (p q : ℕ) → Before (filter test xs) p q → Before xs p q
kept_before test [] p q b = absurd b
kept_before test (x ∷ xs) p q b = go (λ i. kept_before test xs p q i) (test x) b
  where
    go : (Before (filter test xs) p q → Before xs p q) → (t : Bool) → Before (cond t (x ∷ filter test xs) (filter test xs)) p q → Before (x ∷ xs) p q
    go rest true (inl h) = inl (h.0, ((has_kept test xs q).0 h.1).0)
    go rest true (inr i) = inr (rest i)
    go rest false i = inr (rest i)

unshared : (marked : ℕ → Bool) (walk : List ℕ) (x : ℕ) → Has (shared_out marked walk) x → Has walk x
unshared marked walk x h =
    ⊎_elim (λ i. ((has_kept (λ y. not (marked y)) walk x).0 i).0) (λ i. ((has_kept marked walk x).0 i).0) (has_append_cases _ (filter marked walk) x h)

-- the same places are left
pub has_moved : (marked : ℕ → Bool) (front walk back : List ℕ) (x : ℕ) → Has (front ++ (walk ++ back)) x ↔ Has (front ++ (shared_out marked walk ++ back)) x
has_moved marked front walk back x = (
  has_exchanged front walk (shared_out marked walk) back x (has_shared marked walk x),
  has_exchanged front (shared_out marked walk) walk back x (unshared marked walk x),
)

-- and none stands twice that did not
pub once_moved : (marked : ℕ → Bool) (front walk back : List ℕ) (p : ℕ) → Before (front ++ (shared_out marked walk ++ back)) p p → Before (front ++ (walk ++ back)) p p
once_moved marked front walk back p = before_exchanged front (shared_out marked walk) walk back p p (unshared marked walk p) (unshared marked walk p) walked
  where
    walked : Before (shared_out marked walk) p p → Before walk p p
    walked i =
        ⊎_elim (kept_before (λ y. not (marked y)) walk p p)
        (⊎_elim (λ j. absurd (both_ways (not (marked p)) (ap not ((has_kept marked walk p).0 j.1).1) ((has_kept (λ y. not (marked y)) walk p).0 j.0).1)) (kept_before marked walk p p))
        (before_cases _ (filter marked walk) p p i)

pub length_shared : (marked : ℕ → Bool) (walk : List ℕ) → length (shared_out marked walk) ≡ length walk
length_shared marked walk =
    let sum = length-append (filter (λ p. not (marked p)) walk) (filter marked walk) in
    let both = length-filter_both marked (λ p. not (marked p)) (λ p. refl) walk in
    omega arith
