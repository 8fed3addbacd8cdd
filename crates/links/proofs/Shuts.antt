-- Links that enter a place, taken out one after another. Assumes nothing.
use Rattle.std.proofs.Common.{◌≡◌, ℕ, ◌+◌, Bool, true, false, cond, not, eqb, ◌&&◌, List, [], ◌∷◌, length, filter, sym, refl, ap, ◌∙◌, arith}
use Rattle.std.proofs.lemmas.List.Filters.{length-filter_both}
use Rattle.std.specs.List.{ContainsAt as Has}
use Rattle.paths.proofs.Lists.{has_first, has_later}
use Rattle.links.specs.declared.row.Link.{Link}
use Rattle.links.specs.Links.{AsMany, joins, enters, Lost, Shut}
use Rattle.links.proofs.Joins.{not_enters}

-- what passes two tests
pub kept_twice : {X : Type 0} (keep test : X → Bool) (xs : List X) → filter test (filter keep xs) ≡ filter (λ x. keep x && test x) xs
kept_twice keep test [] = refl
kept_twice {X} keep test (x ∷ xs) = go (keep x) (filter keep xs) (filter (λ x. keep x && test x) xs) (kept_twice keep test xs)
  where
    go : (b : Bool) (ys zs : List X) → filter test ys ≡ zs → filter test (cond b (x ∷ ys) ys) ≡ cond (b && test x) (x ∷ zs) zs
    go true ys zs e = ap (λ (l : List X). cond (test x) (x ∷ l) l) e
    go false ys zs e = e

kept_same : {X : Type 0} (f g : X → Bool) → ((x : X) → f x ≡ g x) → (xs : List X) → filter f xs ≡ filter g xs
kept_same f g same xs = ap (λ test. filter test xs) (λ i x. same x i)

kept_all : {X : Type 0} (keep : X → Bool) (xs : List X) → ((x : X) → Has xs x → keep x ≡ true) → filter keep xs ≡ xs
kept_all keep [] all = refl
kept_all {X} keep (x ∷ xs) all = ap (λ b. cond b (x ∷ filter keep xs) (filter keep xs)) (all x (has_first xs x)) ∙ ap (λ (ys : List X). x ∷ ys) (kept_all keep xs (λ y h. all y (has_later xs x y h)))

-- a link that does not enter p does not lead from u to p either
absorb : (a b t : Bool) → (not (a && b) && (not b && t)) ≡ (not b && t)
absorb true true t = refl
absorb true false t = refl
absorb false b t = refl

-- ys are links xs, and as many of those that do not enter p
pub record Thinned {R : Type 0} (xs ys : List (Link R)) (p : ℕ) : Type 0 where
  pub some : (m : Link R) → Has ys m → Has xs m
  pub all : (m : Link R) → Has xs m → (m.target.0 ≡ p → ⊥) → Has ys m
  pub number : AsMany (filter (λ m. not (enters p m)) ys) (filter (λ m. not (enters p m)) xs)

module _ {R : Type 0} (xs ys : List (Link R)) (p : ℕ) where
  pub thinned_more : (zs : List (Link R)) (u : ℕ) → Thinned xs ys p → Lost ys zs u p → Thinned xs zs p
  thinned_more zs u th lost =
      let outside : Link R → Bool = λ m. not (enters p m) in
      record {
        some = λ m h. th.some m ((lost.members m).0 h).0;
        all = λ m h ne. (lost.members m).1 (th.all m h ne, λ _. ne);
        number = λ test.
            ap length (kept_twice outside test zs) ∙ lost.number (λ m. outside m && test m)
            ∙ ap length (kept_twice (λ m. not (joins u p m)) (λ m. outside m && test m) ys
            ∙ kept_same (λ m. not (joins u p m) && (outside m && test m)) (λ m. outside m && test m) (λ m. absorb (eqb m.source.0 u) (eqb m.target.0 p) (test m)) ys
            ∙ sym (kept_twice outside test ys))
            ∙ th.number test;
      }

  module _ (th : Thinned xs ys p) (none : (m : Link R) → Has ys m → m.target.0 ≡ p → ⊥) where
    all_outside : filter (λ m. not (enters p m)) ys ≡ ys
    all_outside = kept_all (λ m. not (enters p m)) ys (λ m h. (not_enters m p).1 (none m h))

    pub thinned_shut : Shut xs ys p
    thinned_shut = record {
      members = λ m. (λ h. (th.some m h, none m h), λ h. th.all m h.0 h.1);
      number = λ test. ap (λ (l : List (Link R)). length (filter test l)) (sym all_outside) ∙ th.number test;
    }

    pub thinned_number : length ys + length (filter (enters p) xs) ≡ length xs
    thinned_number =
        let every = λ (l : List (Link R)). kept_all (λ _. true) l (λ m _. refl) in
        let e = ap length (sym (every ys)) ∙ thinned_shut.number (λ _. true) ∙ ap length (every (filter (λ m. not (enters p m)) xs)) in
        omega (arith, length-filter_both (enters p) (λ m. not (enters p m)) (λ _. refl) xs)
