-- A report is one list, and a number of places one number. Assumes nothing.
use Rattle.std.proofs.Common.{◌≡◌, ℕ, zero, suc, ◌<◌, ◌≤◌, Bool, true, false, cond, not, eqb, ◌↔◌, List, [], ◌∷◌, ◌++◌, length, get_or, filter, sym, refl, ap, ◌∙◌, subst, ⊎_elim, not-suc-le-zero, arith}
use Rattle.std.specs.List.{ContainsAt as Has}
use Rattle.std.proofs.lemmas.Bool.{eq-eqb, ne_eqb, cases_lt}
use Rattle.std.proofs.lemmas.List.{length_push, get_or_push, get_or_append_left}
use Rattle.std.proofs.lemmas.List.Filters.{length-filter_both}
use Rattle.std.proofs.ByRecursion.{has_get_or}
use Rattle.paths.specs.Ledger.{Ledger}
use Rattle.paths.specs.Reports.{IsReport, Rising, Distinct, Number}
use Rattle.paths.proofs.Lists.{has_none, has_first, has_later, has_cases, has_kept}

-- the first stands below each later one
rising_head : (rank : ℕ → ℕ) (p : ℕ) (ps : List ℕ) → Rising rank (p ∷ ps) → (x : ℕ) → Has ps x → rank p < rank x
rising_head rank p ps up x h = let l = up 0 (suc h.0) (omega arith) (omega arith) in subst (λ (y : ℕ). rank p < rank y) (h.2 0) l

rising_tail : (rank : ℕ → ℕ) (p : ℕ) (ps : List ℕ) → Rising rank (p ∷ ps) → Rising rank ps
rising_tail rank p ps up i j l m = up (suc i) (suc j) (omega arith) (omega arith)

-- two rising lists of the same places are one list
pub rising_same : (rank : ℕ → ℕ) (ps qs : List ℕ) → Rising rank ps → Rising rank qs → ((x : ℕ) → Has ps x → Has qs x) → ((x : ℕ) → Has qs x → Has ps x) → ps ≡ qs
rising_same rank [] [] a b f g = refl
rising_same rank [] (q ∷ qs) a b f g = absurd (has_none q (g q (has_first qs q)))
rising_same rank (p ∷ ps) [] a b f g = absurd (has_none p (f p (has_first ps p)))
rising_same rank (p ∷ ps) (q ∷ qs) a b f g =
    let e = first in
    let rest = rising_same rank ps qs (rising_tail rank p ps a) (rising_tail rank q qs b) (up e) (down e) in
    cc
  where
    first : p ≡ q
    first =
        ⊎_elim {C = p ≡ q} (λ e. sym e)
        (λ i. ⊎_elim {C = p ≡ q} (λ e. e) (λ j. let l = rising_head rank p ps a q j in let m = rising_head rank q qs b p i in let z : ⊥ = omega arith in absurd z) (has_cases ps p q (g q (has_first qs q))))
        (has_cases qs q p (f p (has_first ps p)))

    up : p ≡ q → (x : ℕ) → Has ps x → Has qs x
    up e x i = ⊎_elim {C = Has qs x} (λ s. let l = rising_head rank p ps a x i in let w = ap rank (e ∙ s) in let z : ⊥ = omega arith in absurd z) (λ j. j) (has_cases qs q x (f x (has_later ps p x i)))

    down : p ≡ q → (x : ℕ) → Has qs x → Has ps x
    down e x i = ⊎_elim {C = Has ps x} (λ s. let l = rising_head rank q qs b x i in let w = ap rank (sym e ∙ s) in let z : ⊥ = omega arith in absurd z) (λ j. j) (has_cases ps p x (g x (has_later qs q x i)))

pub report_one : {V P : Type 0} (h : Ledger V P) (e : ℕ) (old new : ℕ → V) (rank : ℕ → ℕ) (ps qs : List ℕ) → IsReport h e old new rank ps → IsReport h e old new rank qs → ps ≡ qs
report_one h e old new rank ps qs a b =
    rising_same rank ps qs a.rising b.rising (λ x i. (b.those x).1 ((a.those x).0 i)) (λ x i. (a.those x).1 ((b.those x).0 i))

kept_lt : (test : ℕ → Bool) (ys : List ℕ) (x : ℕ) → Has ys x → test x ≡ false → length (filter test ys) < length ys
kept_lt test ys x h e =
    let both = length-filter_both test (λ y. not (test y)) (λ y. refl) ys in
    let out = (has_kept (λ y. not (test y)) ys x).1 (h, ap not e) in
    omega (arith, out.1)

-- a list in which no place stands twice is no longer than one that has all its places
pub once_le : (xs ys : List ℕ) → Distinct xs → ((x : ℕ) → Has xs x → Has ys x) → length xs ≤ length ys
once_le [] ys once sub = omega arith
once_le (x ∷ xs) ys once sub =
    let test : ℕ → Bool = λ y. not (eqb y x) in
    let out : test x ≡ false = ap not (eq-eqb x x refl) in
    let shorter = kept_lt test ys x (sub x (has_first xs x)) out in
    let rest : length xs ≤ length (filter test ys) =
    once_le xs (filter test ys) (λ i j l m. once (suc i) (suc j) (omega arith) (omega arith))
    (λ y i. (has_kept test ys y).1 (sub y (has_later xs x y i), ap not (ne_eqb y x (λ q. once 0 (suc i.0) (omega arith) (omega arith) (sym (i.2 0 ∙ q)))))) in
    omega arith

pub number_one : (Q : ℕ → Type 0) (m n : ℕ) → Number Q m → Number Q n → m ≡ n
number_one Q m n a b =
    let l = once_le a.all b.all a.once (λ x i. (b.those x).1 ((a.those x).0 i)) in
    let k = once_le b.all a.all b.once (λ x i. (a.those x).1 ((b.those x).0 i)) in
    let s = a.size in
    let t = b.size in
    omega arith

rising_cons : (rank : ℕ → ℕ) (p : ℕ) (ps : List ℕ) → ((x : ℕ) → Has ps x → rank p < rank x) → Rising rank ps → Rising rank (p ∷ ps)
rising_cons rank p ps low up i zero l m = absurd (not-suc-le-zero l)
rising_cons rank p ps low up zero (suc j) l m = low (get_or ps j 0) (has_get_or ps j 0 (omega arith))
rising_cons rank p ps low up (suc i) (suc j) l m = up i j (omega arith) (omega arith)

pub rising_push : (rank : ℕ → ℕ) (ps : List ℕ) (x : ℕ) → Rising rank ps → ((p : ℕ) → Has ps p → rank p < rank x) → Rising rank (ps ++ (x ∷ []))
rising_push rank ps x up low i j l m =
    let size = length_push ps x in
    let li : i < length ps = omega arith in
    let at : get_or (ps ++ (x ∷ [])) i 0 ≡ get_or ps i 0 = get_or_append_left ps (x ∷ []) 0 i li in
    ⊎_elim {C = rank (get_or (ps ++ (x ∷ [])) i 0) < rank (get_or (ps ++ (x ∷ [])) j 0)}
    (λ lj. rw (at, get_or_append_left ps (x ∷ []) 0 j lj) (up i j l lj))
    (λ gj. let e : length ps ≡ j = omega arith in rw (at, get_or_push ps x 0 j e) (low (get_or ps i 0) (has_get_or ps i 0 li)))
    (cases_lt j (length ps))

rising_kept : (rank : ℕ → ℕ) (test : ℕ → Bool) (ps : List ℕ) → Rising rank ps → Rising rank (filter test ps)
rising_kept rank test [] up = λ i j l m. absurd (not-suc-le-zero m)
rising_kept rank test (p ∷ ps) up = go (test p) (rising_kept rank test ps (rising_tail rank p ps up))
  where
    go : (b : Bool) → Rising rank (filter test ps) → Rising rank (cond b (p ∷ filter test ps) (filter test ps))
    go true rest = rising_cons rank p (filter test ps) (λ x i. rising_head rank p ps up x ((has_kept test ps x).0 i).0) rest
    go false rest = rest

-- the number of the places that are so, where all of them are in a rising list, is that of those in the list
pub number_kept : (rank : ℕ → ℕ) (ps : List ℕ) (Q : ℕ → Type 0) (test : ℕ → Bool) → Rising rank ps → ((p : ℕ) → (test p ≡ true) ↔ Q p) → ((p : ℕ) → Q p → Has ps p) →
    Number Q (length (filter test ps))
number_kept rank ps Q test up tells all =
    record {
      all = filter test ps;
      those = λ p. (λ i. (tells p).0 ((has_kept test ps p).0 i).1, λ c. (has_kept test ps p).1 (all p c, (tells p).1 c));
      once = λ i j l m q. let f = rising_kept rank test ps up i j l m in let w = ap rank q in omega arith;
      size = refl;
    }
