-- The text of a day is read as that day, and no other text is. Assumes nothing.
use Rattle.std.proofs.Common.{◌≡◌, ℕ, ◌+◌, ◌-◌, ◌*◌, ◌/◌, ◌%◌, ◌<◌, ◌≤◌, Bool, true, false, cond, ◌&&◌, eqb, leb, List, [], ◌∷◌, length, get_or, Some, None, Option, sym, refl, ap, ◌∙◌, arith}
use Rattle.std.proofs.lemmas.Bool.{cond-true, and_from, and_parts, le-leb, leb-true, eqb-true}
use Rattle.calendar.specs.Calendar.{leap, FallsOn, InRange, day_if, year_of, month_of, day_of}
use Rattle.calendar.specs.Text.{digit, date_text, day_text, digits_at, two_at, is_date, day_in}
use Rattle.calendar.specs.Theorems.{TextTells}
use Rattle.calendar.specs.Rules.{month_short}
use Rattle.calendar.specs.Dates.{computed, date_is, ranged, test_tells}

-- a list of ten bytes, byte by byte
ten_of : (r : List ℕ) → length r ≡ 10 → r ≡ get_or r 0 0 ∷ get_or r 1 0 ∷ get_or r 2 0 ∷ get_or r 3 0 ∷ get_or r 4 0 ∷ get_or r 5 0 ∷ get_or r 6 0 ∷ get_or r 7 0 ∷ get_or r 8 0 ∷ get_or r 9 0 ∷ []
ten_of [] e = absurd (omega arith)
ten_of (a ∷ []) e = absurd (omega arith)
ten_of (a ∷ b ∷ []) e = absurd (omega arith)
ten_of (a ∷ b ∷ c ∷ []) e = absurd (omega arith)
ten_of (a ∷ b ∷ c ∷ d ∷ []) e = absurd (omega arith)
ten_of (a ∷ b ∷ c ∷ d ∷ f ∷ []) e = absurd (omega arith)
ten_of (a ∷ b ∷ c ∷ d ∷ f ∷ g ∷ []) e = absurd (omega arith)
ten_of (a ∷ b ∷ c ∷ d ∷ f ∷ g ∷ h ∷ []) e = absurd (omega arith)
ten_of (a ∷ b ∷ c ∷ d ∷ f ∷ g ∷ h ∷ i ∷ []) e = absurd (omega arith)
ten_of (a ∷ b ∷ c ∷ d ∷ f ∷ g ∷ h ∷ i ∷ j ∷ []) e = absurd (omega arith)
ten_of (a ∷ b ∷ c ∷ d ∷ f ∷ g ∷ h ∷ i ∷ j ∷ k ∷ []) e = refl
ten_of (a ∷ b ∷ c ∷ d ∷ f ∷ g ∷ h ∷ i ∷ j ∷ k ∷ l ∷ ls) e = absurd (omega arith)

digit_bounds : (b : ℕ) → digit b ≡ true → (48 ≤ b) × (b ≤ 57)
digit_bounds b t = let p = and_parts (leb 48 b) (leb b 57) t in (leb-true 48 b p.0, leb-true b 57 p.1)

digit_from : (n : ℕ) → n < 10 → digit (48 + n) ≡ true
digit_from n h = and_from (leb 48 (48 + n)) (leb (48 + n) 57) (le-leb 48 (48 + n) (omega arith)) (le-leb (48 + n) 57 (omega arith))

-- two digits are the text of the number that they write
two_back : (a b : ℕ) → digit a ≡ true → digit b ≡ true → ((48 + ((a - 48) * 10 + (b - 48)) / 10) ≡ a) × ((48 + ((a - 48) * 10 + (b - 48)) % 10) ≡ b)
two_back a b s t = let p = digit_bounds a s in let q = digit_bounds b t in (omega arith, omega arith)

-- the digits of a number write it
two_value : (n : ℕ) → n < 100 → ((48 + n / 10) - 48) * 10 + ((48 + n % 10) - 48) ≡ n
two_value n h = omega arith

-- a text of the form of a date is the text of the numbers in it
date_read : (r : List ℕ) → is_date r ≡ true → r ≡ date_text (two_at r 0 * 100 + two_at r 2) (two_at r 5) (two_at r 8)
date_read r t =
    let at = λ (i : ℕ). get_or r i 0 in
    let a = and_parts (eqb (length r) 10) _ t in
    let b = and_parts (eqb (at 4) 45) _ a.1 in
    let c = and_parts (eqb (at 7) 45) _ b.1 in
    let d = and_parts (digits_at r 0) _ c.1 in
    let e = and_parts (digits_at r 2) _ d.1 in
    let f = and_parts (digits_at r 5) (digits_at r 8) e.1 in
    let d_0 = and_parts (digit (at 0)) (digit (at 1)) d.0 in
    let d_2 = and_parts (digit (at 2)) (digit (at 3)) e.0 in
    let d_5 = and_parts (digit (at 5)) (digit (at 6)) f.0 in
    let d_8 = and_parts (digit (at 8)) (digit (at 9)) f.1 in
    let b_0 = two_back (at 0) (at 1) d_0.0 d_0.1 in
    let b_2 = two_back (at 2) (at 3) d_2.0 d_2.1 in
    let b_5 = two_back (at 5) (at 6) d_5.0 d_5.1 in
    let b_8 = two_back (at 8) (at 9) d_8.0 d_8.1 in
    let small : two_at r 2 < 100 = omega (arith, digit_bounds (at 2) d_2.0, digit_bounds (at 3) d_2.1) in
    let high : (two_at r 0 * 100 + two_at r 2) / 100 ≡ two_at r 0 = omega arith in
    let low : (two_at r 0 * 100 + two_at r 2) % 100 ≡ two_at r 2 = omega arith in
    let p_0 : at 0 ≡ 48 + (two_at r 0 * 100 + two_at r 2) / 100 / 10 = sym b_0.0 ∙ ap (λ n. 48 + n / 10) (sym high) in
    let p_1 : at 1 ≡ 48 + (two_at r 0 * 100 + two_at r 2) / 100 % 10 = sym b_0.1 ∙ ap (λ n. 48 + n % 10) (sym high) in
    let p_2 : at 2 ≡ 48 + (two_at r 0 * 100 + two_at r 2) % 100 / 10 = sym b_2.0 ∙ ap (λ n. 48 + n / 10) (sym low) in
    let p_3 : at 3 ≡ 48 + (two_at r 0 * 100 + two_at r 2) % 100 % 10 = sym b_2.1 ∙ ap (λ n. 48 + n % 10) (sym low) in
    let p_4 : at 4 ≡ 45 = eqb-true (at 4) 45 b.0 in
    let p_7 : at 7 ≡ 45 = eqb-true (at 7) 45 c.0 in
    ten_of r (eqb-true (length r) 10 a.0)
    ∙ (λ i. p_0 i ∷ p_1 i ∷ p_2 i ∷ p_3 i ∷ p_4 i ∷ sym b_5.0 i ∷ sym b_5.1 i ∷ p_7 i ∷ sym b_8.0 i ∷ sym b_8.1 i ∷ [])

-- two digits of a number below 100
two_digits : (n : ℕ) → n < 100 → (digit (48 + n / 10) && digit (48 + n % 10)) ≡ true
two_digits n h = and_from (digit (48 + n / 10)) (digit (48 + n % 10)) (digit_from (n / 10) (omega arith)) (digit_from (n % 10) (omega arith))

-- the text of a date has that form, and its numbers are those of the date
date_shape : (y m d : ℕ) → y < 10000 → m < 100 → d < 100 → is_date (date_text y m d) ≡ true
date_shape y m d hy hm hd =
    and_from _ _ (two_digits (y / 100) (omega arith)) (and_from _ _ (two_digits (y % 100) (omega arith)) (and_from _ _ (two_digits m hm) (two_digits d hd)))

year_back : (y : ℕ) → y < 10000 → two_at (date_text y 0 0) 0 * 100 + two_at (date_text y 0 0) 2 ≡ y
year_back y h =
    let a = two_value (y / 100) (omega arith) in
    let b = two_value (y % 100) (omega arith) in
    omega arith

date_back : (y m d : ℕ) → y < 10000 → m < 100 → d < 100 → day_in (date_text y m d) ≡ day_if y m d
date_back y m d hy hm hd =
    cond-true (is_date (date_text y m d)) _ None (date_shape y m d hy hm hd)
    ∙ (λ i. day_if (year_back y hy i) (two_value m hm i) (two_value d hd i))

some_of : (b : Bool) (o : Option ℕ) (n : ℕ) → cond b o None ≡ Some n → (b ≡ true) × (o ≡ Some n)
some_of true o n e = (refl, e)
some_of false o n e = let z : ◌≡◌ {A = ℕ} 0 1 = cc in absurd (omega arith)

text_is : (r : List ℕ) (n : ℕ) → day_in r ≡ Some n → InRange n × (r ≡ day_text n)
unfolding day_text
text_is r n e =
    let y = two_at r 0 * 100 + two_at r 2 in
    let m = two_at r 5 in
    let d = two_at r 8 in
    let s = some_of (is_date r) (day_if y m d) n e in
    let f : FallsOn y m d n = (test_tells y m d n).0 s.1 in
    let p = date_is y m d n f in
    (ranged y m d n f, date_read r s.0 ∙ (λ i. date_text (p.0 i) (p.1 i) (p.2 i)))

is_text : (r : List ℕ) (n : ℕ) → InRange n → r ≡ day_text n → day_in r ≡ Some n
unfolding day_text
is_text r n h e =
    let f = computed n h in
    let x = f.0 in
    let short : day_of n ≤ 31 = omega (arith, x.day_to, month_short (leap (year_of n)) (month_of n) x.month_from x.month_to) in
    ap day_in e ∙ date_back (year_of n) (month_of n) (day_of n) (omega (arith, x.year_to)) (omega (arith, x.month_to)) (omega arith)
    ∙ (test_tells (year_of n) (month_of n) (day_of n) n).1 f

pub text_tells : TextTells
text_tells r n = (text_is r n, λ p. is_text r n p.0 p.1)
