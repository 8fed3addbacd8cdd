-- The rules of the fixed tables: each is one test that antt computes over the whole table, carried to each entry by a lemma. Assumes nothing.
use Rattle.std.proofs.Common.{◌≡◌, ℕ, zero, suc, ◌+◌, ◌-◌, ◌<◌, ◌≤◌, Bool, true, false, cond, T, eqb, leb, List, [], ◌∷◌, length, get_or, drop, sym, refl, ap, ◌∙◌, subst, le_of_suc-le-suc, not-suc-le-zero, add-zero, add-suc, suc-add, zero-add, add-one, arith, eqb→eq, leb→le}
use Rattle.calendar.specs.Calendar.{leap, year_length, before_year, before_month, month_length, day_number, Exists}

abbrev pub both : Bool → Bool → Bool
both true b = b
both false b = false

pub both_left : (a b : Bool) → T (both a b) → T a
both_left true b t = tt
both_left false b t = t

pub both_right : (a b : Bool) → T (both a b) → T b
both_right true b t = t
both_right false b t = absurd t

-- the year table
abbrev pub later : List ℕ
later = 365 ∷ 730 ∷ 1096 ∷ 1461 ∷ 1826 ∷ 2191 ∷ 2557 ∷ 2922 ∷ 3287 ∷ 3652 ∷ 4018 ∷ 4383 ∷ 4748 ∷ 5113 ∷ 5479 ∷ 5844 ∷ 6209 ∷ 6574 ∷ 6940 ∷ 7305 ∷ 7670 ∷ 8035 ∷ 8401 ∷ 8766 ∷ 9131 ∷ 9496 ∷ 9862 ∷ 10227 ∷ 10592 ∷ 10957 ∷ 11323 ∷ 11688 ∷ 12053 ∷ 12418 ∷ 12784 ∷ 13149 ∷ 13514 ∷ 13879 ∷ 14245 ∷ 14610 ∷ 14975 ∷ 15340 ∷ 15706 ∷ 16071 ∷ 16436 ∷ 16801 ∷ 17167 ∷ 17532 ∷ 17897 ∷ 18262 ∷ 18628 ∷ 18993 ∷ 19358 ∷ 19723 ∷ 20089 ∷ 20454 ∷ 20819 ∷ 21184 ∷ 21550 ∷ 21915 ∷ 22280 ∷ 22645 ∷ 23011 ∷ 23376 ∷ 23741 ∷ 24106 ∷ 24472 ∷ 24837 ∷ 25202 ∷ 25567 ∷ 25933 ∷ 26298 ∷ 26663 ∷ 27028 ∷ 27394 ∷ 27759 ∷ 28124 ∷ 28489 ∷ 28855 ∷ 29220 ∷ 29585 ∷ 29950 ∷ 30316 ∷ 30681 ∷ 31046 ∷ 31411 ∷ 31777 ∷ 32142 ∷ 32507 ∷ 32872 ∷ 33238 ∷ 33603 ∷ 33968 ∷ 34333 ∷ 34699 ∷ 35064 ∷ 35429 ∷ 35794 ∷ 36160 ∷ 36525 ∷ 36890 ∷ 37255 ∷ 37621 ∷ 37986 ∷ 38351 ∷ 38716 ∷ 39082 ∷ 39447 ∷ 39812 ∷ 40177 ∷ 40543 ∷ 40908 ∷ 41273 ∷ 41638 ∷ 42004 ∷ 42369 ∷ 42734 ∷ 43099 ∷ 43465 ∷ 43830 ∷ 44195 ∷ 44560 ∷ 44926 ∷ 45291 ∷ 45656 ∷ 46021 ∷ 46387 ∷ 46752 ∷ 47117 ∷ 47482 ∷ 47847 ∷ 48212 ∷ 48577 ∷ 48942 ∷ 49308 ∷ 49673 ∷ 50038 ∷ 50403 ∷ 50769 ∷ 51134 ∷ 51499 ∷ 51864 ∷ 52230 ∷ 52595 ∷ 52960 ∷ 53325 ∷ 53691 ∷ 54056 ∷ 54421 ∷ 54786 ∷ 55152 ∷ 55517 ∷ 55882 ∷ 56247 ∷ 56613 ∷ 56978 ∷ 57343 ∷ 57708 ∷ 58074 ∷ 58439 ∷ 58804 ∷ 59169 ∷ 59535 ∷ 59900 ∷ 60265 ∷ 60630 ∷ 60996 ∷ 61361 ∷ 61726 ∷ 62091 ∷ 62457 ∷ 62822 ∷ 63187 ∷ 63552 ∷ 63918 ∷ 64283 ∷ 64648 ∷ 65013 ∷ 65379 ∷ 65744 ∷ 66109 ∷ 66474 ∷ 66840 ∷ 67205 ∷ 67570 ∷ 67935 ∷ 68301 ∷ 68666 ∷ 69031 ∷ 69396 ∷ 69762 ∷ 70127 ∷ 70492 ∷ 70857 ∷ 71223 ∷ 71588 ∷ 71953 ∷ 72318 ∷ 72684 ∷ 73049 ∷ 73414 ∷ 73779 ∷ 74145 ∷ 74510 ∷ 74875 ∷ 75240 ∷ 75606 ∷ 75971 ∷ 76336 ∷ 76701 ∷ 77067 ∷ 77432 ∷ 77797 ∷ 78162 ∷ 78528 ∷ 78893 ∷ 79258 ∷ 79623 ∷ 79989 ∷ 80354 ∷ 80719 ∷ 81084 ∷ 81450 ∷ 81815 ∷ 82180 ∷ 82545 ∷ 82911 ∷ 83276 ∷ 83641 ∷ 84006 ∷ []

abbrev pub years : List ℕ
years = 0 ∷ later

-- each entry after the first is the one before it and that year's length; the first of xs stands for the year y
abbrev steps : ℕ → ℕ → List ℕ → Bool
steps y x [] = true
steps y x (z ∷ zs) = both (eqb z (x + year_length y)) (steps (suc y) z zs)

step_at : (y x : ℕ) (zs : List ℕ) → T (steps y x zs) → (k : ℕ) → k < length zs → get_or (x ∷ zs) (suc k) 0 ≡ get_or (x ∷ zs) k 0 + year_length (y + k)
step_at y x [] t k h = absurd (not-suc-le-zero h)
step_at y x (z ∷ zs) t zero h = eqb→eq z (x + year_length y) (both_left _ _ t) ∙ ap (λ n. x + year_length n) (sym (add-zero y))
step_at y x (z ∷ zs) t (suc k) h =
    step_at (suc y) z zs (both_right (eqb z (x + year_length y)) _ t) k (le_of_suc-le-suc h)
    ∙ ap (λ n. get_or (z ∷ zs) k 0 + year_length n) (suc-add y k ∙ sym (add-suc y k))

-- the rule of the year lengths, over the whole table
pub year_steps : (k : ℕ) → k < 230 → get_or years (suc k) 0 ≡ get_or years k 0 + year_length (1970 + k)
year_steps k h = step_at 1970 0 later (tt {0}) k h

pub years_right : (k : ℕ) → k < 231 → get_or years k 0 ≡ before_year k
unfolding before_year
years_right zero h = refl
years_right (suc k) h = year_steps k (le_of_suc-le-suc h) ∙ ap (λ n. n + year_length (1970 + k)) (years_right k (omega arith))

-- the test f passes at each entry of the list and its place, counted from i
abbrev every : (ℕ → ℕ → Bool) → ℕ → List ℕ → Bool
every f i [] = true
every f i (x ∷ xs) = both (f i x) (every f (suc i) xs)

from : (f : ℕ → ℕ → Bool) (xs : List ℕ) (i : ℕ) → T (every f i xs) → (k : ℕ) → k < length xs → T (f (i + k) (get_or xs k 0))
from f [] i t k h = absurd (not-suc-le-zero h)
from f (x ∷ xs) i t zero h = subst (λ (m : ℕ). T (f m x)) (sym (add-zero i)) (both_left (f i x) (every f (suc i) xs) t)
from f (x ∷ xs) i t (suc k) h =
    subst (λ (m : ℕ). T (f m (get_or xs k 0))) (suc-add i k ∙ sym (add-suc i k))
    (from f xs (suc i) (both_right (f i x) (every f (suc i) xs) t) k (le_of_suc-le-suc h))

abbrev pub plain : List ℕ
plain = 0 ∷ 31 ∷ 59 ∷ 90 ∷ 120 ∷ 151 ∷ 181 ∷ 212 ∷ 243 ∷ 273 ∷ 304 ∷ 334 ∷ []

abbrev pub long : List ℕ
long = 0 ∷ 31 ∷ 60 ∷ 91 ∷ 121 ∷ 152 ∷ 182 ∷ 213 ∷ 244 ∷ 274 ∷ 305 ∷ 335 ∷ []

pub plain_right : (m : ℕ) → 1 ≤ m → m ≤ 12 → get_or plain (m - 1) 0 ≡ before_month false m
unfolding before_month
plain_right m a b =
    let e : 1 + (m - 1) ≡ m = omega arith in
    subst (λ n. get_or plain (m - 1) 0 ≡ before_month false n) e
    (eqb→eq _ _ (from (λ n x. eqb x (before_month false n)) plain 1 (tt {0}) (m - 1) (omega arith)))

pub long_right : (m : ℕ) → 1 ≤ m → m ≤ 12 → get_or long (m - 1) 0 ≡ before_month true m
unfolding before_month
long_right m a b =
    let e : 1 + (m - 1) ≡ m = omega arith in
    subst (λ n. get_or long (m - 1) 0 ≡ before_month true n) e
    (eqb→eq _ _ (from (λ n x. eqb x (before_month true n)) long 1 (tt {0}) (m - 1) (omega arith)))

-- the days before each month, in a leap year or in another
abbrev pub starts : Bool → List ℕ
starts l = cond l long plain

pub starts_right : (l : Bool) (m : ℕ) → 1 ≤ m → m ≤ 12 → get_or (starts l) (m - 1) 0 ≡ before_month l m
starts_right true m a b = long_right m a b
starts_right false m a b = plain_right m a b

-- the next year begins at most at the table's end
pub year_top : (k : ℕ) → k < 231 → before_year k ≤ 84006
year_top k h =
    subst (λ n. n ≤ 84006) (years_right k h)
    (leb→le _ _ (subst (λ (m : ℕ). T (leb (get_or years k 0) 84006)) (zero-add k) (from (λ n x. leb x 84006) years 0 (tt {0}) k h)))

pub year_more : (k : ℕ) → before_year (k + 1) ≡ before_year k + year_length (1970 + k)
unfolding before_year
year_more k = ap before_year (add-one k)

pub length_tells : (b : Bool) → eqb (cond b 366 365) 366 ≡ b
length_tells true = refl
length_tells false = refl

-- a test that holds of each month
each_month : (P : ℕ → Bool) → T (every (λ n x. P n) 1 plain) → (m : ℕ) → 1 ≤ m → m ≤ 12 → T (P m)
each_month P t m a b =
    let e : 1 + (m - 1) ≡ m = omega arith in
    subst (λ n. T (P n)) e (from (λ n x. P n) plain 1 t (m - 1) (omega arith))

each_early : (P : ℕ → Bool) → T (every (λ n x. P n) 1 (drop 1 plain)) → (m : ℕ) → 1 ≤ m → m ≤ 11 → T (P m)
each_early P t m a b =
    let e : 1 + (m - 1) ≡ m = omega arith in
    subst (λ n. T (P n)) e (from (λ n x. P n) (drop 1 plain) 1 t (m - 1) (omega arith))

pub month_more : (l : Bool) (m : ℕ) → 1 ≤ m → m ≤ 11 → before_month l (m + 1) ≡ before_month l m + month_length l m
unfolding before_month month_length
month_more true m a b = eqb→eq _ _ (each_early (λ n. eqb (before_month true (n + 1)) (before_month true n + month_length true n)) (tt {0}) m a b)
month_more false m a b = eqb→eq _ _ (each_early (λ n. eqb (before_month false (n + 1)) (before_month false n + month_length false n)) (tt {0}) m a b)

pub month_top : (l : Bool) (m : ℕ) → 1 ≤ m → m ≤ 12 → before_month l m + month_length l m ≤ cond l 366 365
unfolding before_month month_length
month_top true m a b = leb→le _ _ (each_month (λ n. leb (before_month true n + month_length true n) 366) (tt {0}) m a b)
month_top false m a b = leb→le _ _ (each_month (λ n. leb (before_month false n + month_length false n) 365) (tt {0}) m a b)

pub december : (l : Bool) → month_length l 12 ≡ 31
unfolding month_length
december l = refl

-- no month has more than 31 days
pub month_short : (l : Bool) (m : ℕ) → 1 ≤ m → m ≤ 12 → month_length l m ≤ 31
unfolding month_length
month_short true m a b = leb→le _ _ (each_month (λ n. leb (month_length true n) 31) (tt {0}) m a b)
month_short false m a b = leb→le _ _ (each_month (λ n. leb (month_length false n) 31) (tt {0}) m a b)

-- a day of the month m of the year 1970 + k lies before the table's end
pub in_range : (k m : ℕ) (l : Bool) → k < 230 → l ≡ leap (1970 + k) → 1 ≤ m → m ≤ 12 → before_year k + (before_month l m + month_length l m) ≤ 84006
in_range k m l h e a b =
    let i : k + 1 < 231 = omega arith in
    let f : cond l 366 365 ≡ year_length (1970 + k) = ap (λ (b : Bool). cond b 366 365) e in
    omega (arith, year_top (k + 1) i, year_more k, month_top l m a b)

pub year_end : (l : Bool) → before_month l 12 + 31 ≡ cond l 366 365
unfolding before_month
year_end true = refl
year_end false = refl

-- the date that is found for the day n
pub dated : (k m n : ℕ) (l : Bool) → k < 230 → l ≡ leap (1970 + k) → 1 ≤ n → before_year k ≤ n → 1 ≤ m → m ≤ 12 → before_month l m ≤ n - before_year k
    → n - before_year k < before_month l m + month_length l m
    → Exists (1970 + k) m (n - before_year k - before_month l m + 1) × (day_number (1970 + k) m (n - before_year k - before_month l m + 1) ≡ n)
dated k m n l h e pos a b c d f =
    let p : before_month l m ≡ before_month (leap (1970 + k)) m = ap (λ b. before_month b m) e in
    let q : month_length l m ≡ month_length (leap (1970 + k)) m = ap (λ b. month_length b m) e in
    let r : before_year ((1970 + k) - 1970) ≡ before_year k = ap before_year (omega arith) in
    let s : day_number (1970 + k) m (n - before_year k - before_month l m + 1) ≡ n = omega arith in (
      record {
        year_from = omega arith;
        year_to = omega arith;
        month_from = b;
        month_to = c;
        day_from = omega arith;
        day_to = omega arith;
        not_first = omega arith;
      },
      s,
    )
