-- What a caller learns from the links at a place, and from a loop over them. Assumes nothing.
use Rattle.std.proofs.Common.{◌≡◌, ℕ, ◌<◌, Bool, true, false, ◌||◌, ◌↔◌, List, [], ◌∷◌, ◌++◌, length, get_or, Some, None, Option, is_some, sym, refl, ap, ◌∙◌, subst, ⊎_elim}
use Rattle.std.proofs.lemmas.List.{append-nil, get_or_default}
use Rattle.std.proofs.lemmas.Bool.{cases_Bool}
use borrow.Author.Tests.{both_ways}
use Rattle.std.specs.List.{ContainsAt as Has, list_any}
use Rattle.std.specs.Iterator.{YieldsFirst, Yields}
use Rattle.std.proofs.lemmas.Iterator.{YieldsList}
use Rattle.std.proofs.lemmas.Iterator.Consumers.{YieldsList-from_first}
use Rattle.paths.proofs.Lists.{has_none, has_first, has_later, has_cases}
use Rattle.links.specs.declared.row.Link.{Link}
use Rattle.links.specs.declared.row.Side.{Side}
use Rattle.links.specs.declared.row.Side.TheVariants.{Leaving}
use Rattle.links.specs.declared.table.links_at.LinksAt.{LinksAt}
use Rattle.links.specs.Table.{Leads, end_of, key_of}
use Rattle.links.specs.LinksAt.{Rising, LinksOf, rest}

-- the iterator gives the list, as std's lemmas on `any`, `all`, `fold` and the like ask for it
pub yields : {R : Type 0} (it : LinksAt R) → YieldsList (YieldsFirst rest) (λ l. l) it (rest it)
yields it = YieldsList-from_first (λ l. l) rest (rest it) refl

has_front : {X : Type 0} (xs ys : List X) (x : X) → Has xs x → Has (xs ++ ys) x
has_front [] ys x h = absurd (has_none x h)
has_front {X} (z ∷ xs) ys x h = ⊎_elim {C = Has ((z ∷ xs) ++ ys) x} (λ e. subst (Has ((z ∷ xs) ++ ys)) e (has_first (xs ++ ys) z)) (λ i. has_later (xs ++ ys) z x (has_front xs ys x i)) (has_cases xs z x h)

has_behind : {X : Type 0} (xs ys : List X) (x : X) → Has ys x → Has (xs ++ ys) x
has_behind [] ys x h = h
has_behind (z ∷ xs) ys x h = has_later (xs ++ ys) z x (has_behind xs ys x h)

-- the element at a place
pub has_at : {X : Type 0} (xs : List X) (k : ℕ) (x : X) → k < length xs → x ≡ get_or xs k x → Has xs x
has_at xs k x l e = (k, l, λ d. sym (e ∙ get_or_default xs k x d l))

-- what holds of those passed, and of one more
pub passed_more : {X : Type 0} (P : X → Type 0) (xs : List X) (x : X) → ((y : X) → Has xs y → P y) → P x → (y : X) → Has (xs ++ x ∷ []) y → P y
passed_more P [] x all here y h = ⊎_elim {C = P y} (λ e. subst P e here) (λ i. absurd (has_none y i)) (has_cases [] x y h)
passed_more P (z ∷ xs) x all here y h =
    ⊎_elim {C = P y} (λ e. subst P e (all z (has_first xs z))) (λ i. passed_more P xs x (λ w j. all w (has_later xs z w j)) here y i) (has_cases (xs ++ x ∷ []) z y h)

-- what a test that some element passes says, and the other way round
any_has : {X : Type 0} (test : X → Bool) (xs : List X) → list_any test xs ≡ true → (x : X) × Has xs x × (test x ≡ true)
any_has test [] e = absurd (both_ways false refl e)
any_has {X} test (x ∷ xs) e = ⊎_elim {C = (y : X) × Has (x ∷ xs) y × (test y ≡ true)}
    (λ t. (x, has_first xs x, t))
    (λ f. let r = any_has test xs (sym (ap (λ b. b || list_any test xs) f) ∙ e) in (r.0, has_later xs x r.0 r.1, r.2))
    (cases_Bool (test x))

has_any : {X : Type 0} (test : X → Bool) (xs : List X) (x : X) → Has xs x → test x ≡ true → list_any test xs ≡ true
has_any test [] x h t = absurd (has_none x h)
has_any {X} test (y ∷ xs) x h t = ⊎_elim {C = list_any test (y ∷ xs) ≡ true}
    (λ e. ap (λ b. b || list_any test xs) (ap test e ∙ t))
    (λ i. ap (λ b. test y || b) (has_any test xs x i t) ∙ or-true (test y))
    (has_cases xs y x h)
  where
    or-true : (b : Bool) → (b || true) ≡ true
    or-true true = refl
    or-true false = refl

rising_before : {R : Type 0} (side : Side) (ys zs : List (Link R)) (l : Link R) → Rising side (ys ++ l ∷ zs) → (m : Link R) → Has ys m → key_of side m < key_of side l
rising_before side [] zs l r m h = absurd (has_none m h)
rising_before side (y ∷ ys) zs l r m h =
    ⊎_elim {C = key_of side m < key_of side l}
    (λ e. subst (λ x. key_of side x < key_of side l) e (r.0 l (has_behind ys (l ∷ zs) l (has_first zs l))))
    (λ i. rising_before side ys zs l r.1 m i)
    (has_cases ys y m h)

-- those given so far, and those to come
so_far : {R : Type 0} (it t : LinksAt R) (ys : List (Link R)) → Yields (YieldsFirst rest) it ys t → rest it ≡ ys ++ rest t
so_far it t [] y = ap rest y
so_far it t (l ∷ ys) (j, one, more) = one ∙ ap (λ zs. l ∷ zs) (so_far j t ys more)

module _ {R : Type 0} (side : Side) (xs : List (Link R)) (n p : ℕ) (it : LinksAt R) (of : LinksOf side xs n p (rest it)) where
  -- a loop over the links at p, that has passed ys
  module _ (start t u : LinksAt R) (ys : List (Link R)) (begins : start ≡ it) (y : Yields (YieldsFirst rest) start ys t) where
    all_are : rest it ≡ ys ++ rest t
    all_are = ap rest (sym begins) ∙ so_far start t ys y

    -- the link at hand; it lies beyond those passed
    pub link_here : (l : Link R) → YieldsFirst rest t (Some l) u → Has xs l × (end_of side l ≡ p) × (l.source.0 < n) × (l.target.0 < n)
    link_here l one =
        let h = subst (λ zs. Has zs l) (sym all_are) (has_behind ys (rest t) l (subst (λ zs. Has zs l) (sym one) (has_first (rest u) l))) in
        let m = (of.members l).0 h in
        let i = of.inside l h in
        (m.0, m.1, i.0, i.1)

    pub link_beyond : (l : Link R) → YieldsFirst rest t (Some l) u → (m : Link R) → Has ys m → key_of side m < key_of side l
    link_beyond l one = rising_before side ys (rest u) l (subst (Rising side) (all_are ∙ ap (λ zs. ys ++ zs) one) of.rising)

    -- those passed are links at p, and at the end all of them
    pub passed_are : (m : Link R) → Has ys m → Has xs m × (end_of side m ≡ p)
    passed_are m h = (of.members m).0 (subst (λ zs. Has zs m) (sym all_are) (has_front ys (rest t) m h))

    pub all_passed : YieldsFirst rest t None u → (m : Link R) → Has xs m → end_of side m ≡ p → Has ys m
    all_passed none m h e = subst (λ zs. Has zs m) (all_are ∙ ap (λ zs. ys ++ zs) none.0 ∙ append-nil ys) ((of.members m).1 (h, e))

  -- the first link that comes, and what it means that none comes
  pub first_is : (l : Link R) (u : LinksAt R) → YieldsFirst rest it (Some l) u → Has xs l × (end_of side l ≡ p) × (l.source.0 < n) × (l.target.0 < n)
  first_is l u one = link_here it it u [] refl refl l one

  pub none_is : (u : LinksAt R) → YieldsFirst rest it None u → (m : Link R) → Has xs m → end_of side m ≡ p → ⊥
  none_is u none m h e = has_none m (all_passed it it u [] refl refl none m h e)

  -- some link at p passes a test
  pub some_passes : (test : Link R → Bool) → (list_any test (rest it) ≡ true) ↔ ((m : Link R) × Has xs m × (end_of side m ≡ p) × (test m ≡ true))
  some_passes test = (
    λ e. let r = any_has test (rest it) e in let m = (of.members r.0).0 r.1 in (r.0, m.0, m.1, r.2),
    λ r. has_any test (rest it) r.0 ((of.members r.0).1 (r.1, r.2)) r.3,
  )

-- whether a first link comes is whether a link leaves the place
pub first_leaves : {R : Type 0} (xs : List (Link R)) (n p : ℕ) (it u : LinksAt R) (r : Option (Link R)) → LinksOf Leaving xs n p (rest it) → YieldsFirst rest it r u → (is_some r ≡ true) ↔ ((v : ℕ) × Leads xs p v)
first_leaves xs n p it u None of y = (λ q. absurd (both_ways false refl q), λ j. absurd (none_is Leaving xs n p it of u y j.1.0 j.1.1 j.1.2))
first_leaves xs n p it u (Some l) of y = let h = first_is Leaving xs n p it of l u y in (λ _. (l.target.0, (l, h.0, h.1, refl)), λ _. refl)
