-- Every day has one date, and a date one day. Assumes nothing.
use Rattle.std.proofs.Common.{◌≡◌, ℕ, zero, suc, ◌+◌, ◌-◌, ◌<◌, ◌≤◌, Bool, true, false, cond, leb, Some, None, sym, refl, ap, ◌∙◌, subst, ⊎_elim, add-zero, arith}
use Rattle.std.proofs.lemmas.Bool.{cond-true, cond-false, and_from, and_parts, le-leb, leb-true, leb-false, cases_Bool, cases_eq, cases_order}
use Rattle.calendar.specs.Calendar.{leap, year_length, before_year, before_month, month_length, day_number, Exists, FallsOn, InRange, exists, last_at_most, years_to, year_of, month_of, day_of}
use Rattle.calendar.specs.Theorems.{DaysAreDates, TestTells}
use Rattle.calendar.specs.Rules.{years_right, year_more, month_more, month_top, december, year_end, in_range, dated}

-- the last one up to t
last_top : (f : ℕ → ℕ) (n t : ℕ) → last_at_most f n t ≤ t
unfolding last_at_most
last_top f n zero = omega arith
last_top f n (suc t) =
    ⊎_elim
    (λ e. let z = cond-true _ (suc t) (last_at_most f n t) e in omega arith)
    (λ e. let z = cond-false _ (suc t) (last_at_most f n t) e in omega (arith, last_top f n t))
    (cases_Bool (leb (f (suc t)) n))

last_low : (f : ℕ → ℕ) (n t : ℕ) → f 0 ≤ n → f (last_at_most f n t) ≤ n
unfolding last_at_most
last_low f n zero h = h
last_low f n (suc t) h =
    ⊎_elim
    (λ e. subst (λ (j : ℕ). f j ≤ n) (sym (cond-true _ (suc t) (last_at_most f n t) e)) (leb-true (f (suc t)) n e))
    (λ e. subst (λ (j : ℕ). f j ≤ n) (sym (cond-false _ (suc t) (last_at_most f n t) e)) (last_low f n t h))
    (cases_Bool (leb (f (suc t)) n))

last_next : (f : ℕ → ℕ) (n t j : ℕ) → j ≤ t → last_at_most f n t < j → n < f j
unfolding last_at_most
last_next f n zero j h l = absurd (omega arith)
last_next f n (suc t) j h l =
    ⊎_elim
    (λ e. let z = cond-true _ (suc t) (last_at_most f n t) e in absurd (omega arith))
    (λ e.
    let z = cond-false _ (suc t) (last_at_most f n t) e in
    ⊎_elim
    (λ q. subst (λ (i : ℕ). n < f i) (sym q) (leb-false (f (suc t)) n e))
    (λ q. last_next f n t j (omega arith) (omega arith))
    (cases_eq j (suc t)))
    (cases_Bool (leb (f (suc t)) n))

year_first : before_year 0 ≡ 0
unfolding before_year
year_first = refl

month_first : (l : Bool) → before_month l 1 ≡ 0
unfolding before_month
month_first l = refl

-- the years before k + i begin at most as late
year_later : (k i : ℕ) → before_year k ≤ before_year (k + i)
year_later k zero = let e : before_year (k + 0) ≡ before_year k = ap before_year (add-zero k) in omega arith
year_later k (suc i) =
    let e : before_year (k + suc i) ≡ before_year ((k + i) + 1) = ap before_year (omega arith) in
    omega (arith, year_later k i, year_more (k + i))

-- a month ends before a later one begins
month_later : (l : Bool) (m i : ℕ) → 1 ≤ m → m + suc i ≤ 12 → before_month l m + month_length l m ≤ before_month l (m + suc i)
month_later l m zero a b =
    let e : before_month l (m + 1) ≡ before_month l m + month_length l m = month_more l m a (omega arith) in
    omega arith
month_later l m (suc i) a b =
    let e : before_month l (m + suc (suc i)) ≡ before_month l ((m + suc i) + 1) = ap (before_month l) (omega arith) in
    omega (arith, month_later l m i a (omega arith), month_more l (m + suc i) (omega arith) (omega arith))

-- a date lies in its year
in_year : (y m d : ℕ) → Exists y m d → (before_year (y - 1970) ≤ day_number y m d) × (day_number y m d < before_year ((y - 1970) + 1))
in_year y m d x =
    let e : 1970 + (y - 1970) ≡ y = omega (arith, x.year_from) in
    let f : year_length (1970 + (y - 1970)) ≡ cond (leap y) 366 365 = ap year_length e in
    (omega arith, omega (arith, year_more (y - 1970), month_top (leap y) m x.month_from x.month_to, x.day_to, x.day_from))

-- of two years one does not begin after a day in the other
year_below : (j k n : ℕ) → before_year j ≤ n → n < before_year (k + 1) → k < j → ⊥
year_below j k n a b h =
    let e : before_year ((k + 1) + (j - (k + 1))) ≡ before_year j = ap before_year (omega arith) in
    omega (arith, year_later (k + 1) (j - (k + 1)))

one_year : (y m d y' m' d' : ℕ) → Exists y m d → Exists y' m' d' → day_number y m d ≡ day_number y' m' d' → y ≡ y'
one_year y m d y' m' d' x x' e =
    let a = in_year y m d x in
    let b = in_year y' m' d' x' in
    ⊎_elim
    (λ q. omega (arith, x.year_from, x'.year_from, q))
    (λ q. ⊎_elim
    (λ h. absurd (year_below (y' - 1970) (y - 1970) (day_number y m d) (omega arith) a.1 h))
    (λ h. absurd (year_below (y - 1970) (y' - 1970) (day_number y m d) a.0 (omega arith) h))
    q)
    (cases_order (y - 1970) (y' - 1970))

-- of two months of a year one does not begin after a day in the other
month_below : (l : Bool) (m i d e : ℕ) → 1 ≤ m → i ≤ 12 → d ≤ month_length l m → 1 ≤ d → 1 ≤ e → before_month l m + (d - 1) ≡ before_month l i + (e - 1) → m < i → ⊥
month_below l m i d e a b c f g h k =
    let q : before_month l (m + suc (i - suc m)) ≡ before_month l i = ap (before_month l) (omega arith) in
    omega (arith, month_later l m (i - suc m) a (omega arith))

one_month : (l : Bool) (m d m' d' : ℕ) → 1 ≤ m → m ≤ 12 → 1 ≤ m' → m' ≤ 12 → 1 ≤ d → d ≤ month_length l m → 1 ≤ d' → d' ≤ month_length l m'
    → before_month l m + (d - 1) ≡ before_month l m' + (d' - 1) → (m ≡ m') × (d ≡ d')
one_month l m d m' d' a b a' b' c e c' e' h =
    ⊎_elim
    (λ q. (q, (let p : before_month l m ≡ before_month l m' = ap (before_month l) q in omega arith)))
    (λ q. ⊎_elim
    (λ k. absurd (month_below l m m' d d' a b' e c c' h k))
    (λ k. absurd (month_below l m' m d' d a' b e' c' c (sym h) k))
    q)
    (cases_order m m')

pub one_date : (y m d y' m' d' n : ℕ) → FallsOn y m d n → FallsOn y' m' d' n → (y ≡ y') × (m ≡ m') × (d ≡ d')
one_date y m d y' m' d' n a b =
    let x = a.0 in
    let x' = b.0 in
    let p : y ≡ y' = one_year y m d y' m' d' x x' (a.1 ∙ sym b.1) in
    let f : before_year (y - 1970) ≡ before_year (y' - 1970) = ap (λ z. before_year (z - 1970)) p in
    let g : before_month (leap y') m' ≡ before_month (leap y) m' = ap (λ z. before_month (leap z) m') (sym p) in
    let k : month_length (leap y') m' ≡ month_length (leap y) m' = ap (λ z. month_length (leap z) m') (sym p) in
    let q = one_month (leap y) m d m' d' x.month_from x.month_to x'.month_from x'.month_to x.day_from x.day_to x'.day_from (omega (arith, x'.day_to)) (omega (arith, a.1, b.1)) in
    (p, q.0, q.1)

pub ranged : (y m d n : ℕ) → FallsOn y m d n → InRange n
ranged y m d n a =
    let x = a.0 in
    let e : 1970 + (y - 1970) ≡ y = omega (arith, x.year_from) in
    let t = in_range (y - 1970) m (leap y) (omega (arith, x.year_to, x.year_from)) (ap leap (sym e)) x.month_from x.month_to in
    (omega (arith, x.not_first, a.1), omega (arith, a.1, x.day_to, x.day_from))

-- the day n lies in the year 1970 + k, and in its month m
pub placed : (k m n : ℕ) (l : Bool) → InRange n → k < 230 → l ≡ leap (1970 + k) → before_year k ≤ n → n < before_year (k + 1)
    → 1 ≤ m → m ≤ 12 → before_month l m ≤ n - before_year k → (m < 12 → n - before_year k < before_month l (m + 1))
    → FallsOn (1970 + k) m (n - before_year k - before_month l m + 1) n
placed k m n l r high e a b c d f g =
    let v : year_length (1970 + k) ≡ cond l 366 365 = ap (λ (q : Bool). cond q 366 365) (sym e) in
    let within : n - before_year k < before_month l m + month_length l m =
    ⊎_elim
    (λ q.
    let p : before_month l m ≡ before_month l 12 = ap (before_month l) q in
    let s : month_length l m ≡ 31 = ap (month_length l) q ∙ december l in
    omega (arith, year_end l, year_more k))
    (λ q. let h : m < 12 = omega arith in omega (arith, g h, month_more l m c (omega arith)))
    (cases_eq m 12) in
    dated k m n l high e r.0 a c d f within

-- the date that is computed for a day falls on it
pub computed : (n : ℕ) → InRange n → FallsOn (year_of n) (month_of n) (day_of n) n
unfolding years_to month_of day_of
computed n r =
    let k = last_at_most before_year n 229 in
    let l = leap (1970 + k) in
    let rest = n - before_year k in
    let g = λ (j : ℕ). before_month l (j + 1) in
    let j = last_at_most g rest 11 in
    let k_top : k ≤ 229 = last_top before_year n 229 in
    let k_low : before_year k ≤ n = last_low before_year n 229 (omega (arith, year_first, r.0)) in
    let end : before_year 230 ≡ 84006 = sym (years_right 230 (omega arith)) in
    let k_next : n < before_year (k + 1) =
    ⊎_elim
    (λ q. subst (λ (i : ℕ). n < before_year i) (let z : 230 ≡ k + 1 = omega arith in z) (omega (arith, r.1)))
    (λ q. last_next before_year n 229 (k + 1) (omega arith) (omega arith))
    (cases_eq k 229) in
    let j_top : j ≤ 11 = last_top g rest 11 in
    let j_low : before_month l (j + 1) ≤ rest = last_low g rest 11 (omega (arith, month_first l)) in
    placed k (j + 1) n l r (omega arith) refl k_low k_next (omega arith) (omega arith) j_low
    (λ h. last_next g rest 11 (j + 1) (omega arith) (omega arith))

-- the date of a day is the one that is computed
pub date_is : (y m d n : ℕ) → FallsOn y m d n → (y ≡ year_of n) × (m ≡ month_of n) × (d ≡ day_of n)
date_is y m d n f = one_date y m d (year_of n) (month_of n) (day_of n) n f (computed n (ranged y m d n f))

pub days_are_dates : DaysAreDates
days_are_dates = record { ranged = ranged; dated = computed; one_date = one_date }

-- the test passes exactly where the date exists
test_from : (y m d : ℕ) → Exists y m d → exists y m d ≡ true
test_from y m d x =
    and_from _ _ (le-leb 1970 y x.year_from) (and_from _ _ (le-leb y 2199 x.year_to) (and_from _ _ (le-leb 1 m x.month_from) (and_from _ _ (le-leb m 12 x.month_to)
    (and_from _ _ (le-leb 1 d x.day_from) (and_from _ _ (le-leb d (month_length (leap y) m) x.day_to) (le-leb 1 (day_number y m d) x.not_first))))))

test_gives : (y m d : ℕ) → exists y m d ≡ true → Exists y m d
test_gives y m d t =
    let a = and_parts (leb 1970 y) _ t in
    let b = and_parts (leb y 2199) _ a.1 in
    let c = and_parts (leb 1 m) _ b.1 in
    let e = and_parts (leb m 12) _ c.1 in
    let f = and_parts (leb 1 d) _ e.1 in
    let g = and_parts (leb d (month_length (leap y) m)) _ f.1 in
    record {
      year_from = leb-true 1970 y a.0;
      year_to = leb-true y 2199 b.0;
      month_from = leb-true 1 m c.0;
      month_to = leb-true m 12 e.0;
      day_from = leb-true 1 d f.0;
      day_to = leb-true d (month_length (leap y) m) g.0;
      not_first = leb-true 1 (day_number y m d) g.1;
    }

some_is : (b : Bool) (x n : ℕ) → cond b (Some x) None ≡ Some n → (b ≡ true) × (x ≡ n)
some_is true x n e = (refl, cc)
some_is false x n e = let z : ◌≡◌ {A = ℕ} 0 1 = cc in absurd (omega arith)

pub test_tells : TestTells
test_tells y m d n = (
  λ e. let p = some_is (exists y m d) (day_number y m d) n e in (test_gives y m d p.0, p.1),
  λ f. cond-true (exists y m d) (Some (day_number y m d)) None (test_from y m d f.0) ∙ ap Some f.1,
)
