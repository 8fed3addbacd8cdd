-- Where a table that rises passes a number. Assumes nothing.
use Rattle.std.proofs.Common.{◌≡◌, ℕ, zero, suc, ◌+◌, ◌-◌, ◌<◌, ◌≤◌, Bool, true, false, T, leb, List, [], ◌∷◌, length, get_or, drop, refl, sym, ⊎_elim, le_of_suc-le-suc, not-suc-le-zero, ap, ◌∙◌, arith, leb→le}
use Rattle.std.proofs.lemmas.Bool.{leb-true, leb-false, cases_lt}
use Rattle.std.proofs.lemmas.List.Sorted.{IsNonDecreasingBy-from_default}
use Rattle.std.specs.List.Sorted.{IsNonDecreasing, IsPartitionPoint}
use Rattle.calendar.specs.Calendar.{before_year, before_month}
use Rattle.calendar.specs.Rules.{both, both_left, both_right, later, years, plain, long, starts, years_right, starts_right}

-- no entry is less than the one before it, as a test; x stands before the list
abbrev rises : ℕ → List ℕ → Bool
rises x [] = true
rises x (y ∷ ys) = both (leb x y) (rises y ys)

rising : (x : ℕ) (xs : List ℕ) → T (rises x xs) → (i j : ℕ) → i ≤ j → j < length (x ∷ xs) → get_or (x ∷ xs) i 0 ≤ get_or (x ∷ xs) j 0
rising x xs t zero zero h l = omega arith
rising x [] t i (suc j) h l = absurd (not-suc-le-zero (le_of_suc-le-suc l))
rising x (y ∷ ys) t zero (suc j) h l =
    omega (arith, leb→le x y (both_left (leb x y) (rises y ys) t), rising y ys (both_right (leb x y) (rises y ys) t) zero j (omega arith) (le_of_suc-le-suc l))
rising x xs t (suc i) zero h l = absurd (not-suc-le-zero h)
rising x (y ∷ ys) t (suc i) (suc j) h l = rising y ys (both_right (leb x y) (rises y ys) t) i j (le_of_suc-le-suc h) (le_of_suc-le-suc l)

pub years_rise : IsNonDecreasing years
years_rise = IsNonDecreasingBy-from_default (λ x. x) years 0 (rising 0 later (tt {0}))

pub starts_rise : (l : Bool) → IsNonDecreasing (starts l)
starts_rise true = IsNonDecreasingBy-from_default (λ x. x) long 0 (rising 0 (drop 1 long) (tt {0}))
starts_rise false = IsNonDecreasingBy-from_default (λ x. x) plain 0 (rising 0 (drop 1 plain) (tt {0}))

-- of a table that begins by n, the last entry up to n and the next one
pub last_by : (xs : List ℕ) (n i : ℕ) → IsPartitionPoint (λ y. leb y n ≡ true) (λ y. leb y n ≡ false) xs i → 0 < length xs → get_or xs 0 0 ≤ n
    → (1 ≤ i) × (get_or xs (i - 1) 0 ≤ n) × (i < length xs → n < get_or xs i 0)
last_by xs n i p h low =
    let some : 1 ≤ i =
    ⊎_elim (λ z. let b = leb-false (get_or xs 0 0) n (p.1 0 0 (omega arith) h) in absurd (omega arith)) (λ q. q) (cases_lt i 1) in
    (some, leb-true _ n (p.0 (i - 1) 0 (omega arith) (omega arith)), λ l. leb-false _ n (p.1 i 0 (omega arith) l))

twelve : (l : Bool) → length (starts l) ≡ 12
twelve true = refl
twelve false = refl

first_start : (l : Bool) (n : ℕ) → get_or (starts l) 0 0 ≤ n
first_start true n = omega arith
first_start false n = omega arith

-- the year of a day, and the month of a day of the year
pub year_by : (n i : ℕ) → IsPartitionPoint (λ y. leb y n ≡ true) (λ y. leb y n ≡ false) years i → i ≤ 231 → n ≤ 84005
    → (1 ≤ i) × (i - 1 < 230) × (before_year (i - 1) ≤ n) × (n < before_year (i - 1 + 1))
year_by n i p h high =
    let f = last_by years n i p (omega arith) (omega arith) in
    let back : i - 1 + 1 ≡ i = omega (arith, f.0) in
    let inside : i < 231 =
    ⊎_elim
    (λ q. q)
    (λ q. let e : i - 1 ≡ 230 = omega arith in absurd (let z : get_or years (i - 1) 0 ≡ 84006 = ap (λ (k : ℕ). get_or years k 0) e in omega (arith, f.1)))
    (cases_lt i 231) in
    let next : before_year (i - 1 + 1) ≡ get_or years i 0 = ap before_year back ∙ sym (years_right i inside) in
    (f.0, omega (arith, f.0), omega (arith, f.1, years_right (i - 1) (omega arith)), omega (arith, f.2 inside, next))

pub month_by : (l : Bool) (n i : ℕ) → IsPartitionPoint (λ y. leb y n ≡ true) (λ y. leb y n ≡ false) (starts l) i → i ≤ length (starts l)
    → (1 ≤ i) × (i ≤ 12) × (before_month l i ≤ n) × (i < 12 → n < before_month l (i + 1))
month_by l n i p h =
    let many = twelve l in
    let f = last_by (starts l) n i p (omega arith) (first_start l n) in
    let here = starts_right l i f.0 (omega arith) in (
      f.0,
      omega arith,
      omega (arith, f.1, here),
      λ q.
          let next : get_or (starts l) i 0 ≡ before_month l (i + 1) = ap (λ (k : ℕ). get_or (starts l) k 0) (omega arith) ∙ starts_right l (i + 1) (omega arith) (omega arith) in
          omega (arith, f.2 (omega arith), next),
    )
