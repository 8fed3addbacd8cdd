-- Reading a number of at most five digits, and its decimal form. Assumes nothing.
use Rattle.std.proofs.Common.{◌≡◌, ℕ, zero, suc, ◌+◌, ◌-◌, ◌*◌, ◌^◌, ◌<◌, ◌≤◌, Bool, true, not, ◌||◌, eqb, leb, List, [], ◌∷◌, length, get_or, drop, decimal, sym, ap, ◌∙◌, subst, ⊎_elim, le_of_suc-le-suc, eq-zero-or-pos, pow-suc, add-one, arith, rules}
use native.Mathlib.Nat.{pow-le-pow_right}
use Rattle.std.proofs.lemmas.Fmt.{decimal_nonempty, length-decimal-le, first_decimal, decimal_digit, decimal-digits_value, digits_decimal, digits_value-decimal}
use Rattle.std.proofs.lemmas.Str.Parse.{IsNumeralModel, numerals_by_fold, digits_value_short}
use Rattle.std.proofs.lemmas.List.{drop_more, drop_all}
use Rattle.std.proofs.lemmas.Bool.{and_parts, and_from, or_left, or_right, or_cases, le-leb, leb-true, eq-eqb, ne_eqb, eqb-true, eqb-false, not-true, not_from_false, cases_eq}
use Rattle.calendar.specs.Text.{digit}
use Rattle.items.specs.Lex.{every, is_number, value_from, value_of}
use Rattle.items.specs.Theorems.{NumberTells}

every_at : (f : ℕ → Bool) (xs : List ℕ) (i : ℕ) → every f xs ≡ true → i < length xs → f (get_or xs i 0) ≡ true
every_at f [] i e h = absurd (omega arith)
every_at f (x ∷ xs) zero e h = (and_parts (f x) (every f xs) e).0
every_at f (x ∷ xs) (suc i) e h = every_at f xs i (and_parts (f x) (every f xs) e).1 (le_of_suc-le-suc h)

pub digit_at : (xs : List ℕ) (i : ℕ) → every digit xs ≡ true → i < length xs → (48 ≤ get_or xs i 0) × (get_or xs i 0 ≤ 57)
digit_at xs i e h =
    let p = and_parts (leb 48 (get_or xs i 0)) (leb (get_or xs i 0) 57) (every_at digit xs i e h) in
    (leb-true 48 (get_or xs i 0) p.0, leb-true (get_or xs i 0) 57 p.1)

pub cap_at : (i : ℕ) → i ≤ 5 → 10 ^ i ≤ 100000
cap_at i h = pow-le-pow_right {n = 10} (omega arith) h

pub pow_more : (i : ℕ) → 10 ^ (i + 1) ≡ 10 ^ i * 10
pow_more i = ap (λ n. 10 ^ n) (add-one i) ∙ pow-suc 10 i

pub value_more : (xs : List ℕ) (i n : ℕ) → i < length xs → value_from n (drop i xs) ≡ value_from (n * 10 + (get_or xs i 0 - 48)) (drop (i + 1) xs)
unfolding value_from
value_more xs i n h = ap (value_from n) (drop_more xs i 0 h)

pub value_end : (xs : List ℕ) (i n : ℕ) → length xs ≤ i → value_from n (drop i xs) ≡ n
unfolding value_from
value_end xs i n h = ap (value_from n) (drop_all i xs h)

-- the shelf's lemmas on decimal forms, for these words
own : IsNumeralModel (λ ds. every digit ds ≡ true) value_of
unfolding value_from
own = numerals_by_fold _ (search rules) value_from (search rules)

no_zero : (n : ℕ) → n < 2 ^ 64 → (eqb (length (decimal n)) 1 || not (eqb (get_or (decimal n) 0 0) 48)) ≡ true
no_zero n h =
    let pos : (n ≡ 0 → ⊥) → 0 < n = λ z. ⊎_elim (λ e. absurd (z e)) (λ q. q) (eq-zero-or-pos n) in
    ⊎_elim
    (λ z. let one : length (decimal n) ≡ 1 = ap (λ m. length (decimal m)) z ∙ ap length (decimal_digit 0 (omega arith)) in or_left _ _ (eq-eqb _ _ one))
    (λ z. or_right _ _ (not_from_false _ (ne_eqb (get_or (decimal n) 0 0) 48 (λ e. let f = first_decimal n (pos z) h in omega arith))))
    (cases_eq n 0)

-- a number has no leading zero
zero_alone : (r : List ℕ) → (eqb (length r) 1 || not (eqb (get_or r 0 0) 48)) ≡ true → get_or r 0 0 ≡ 48 → length r ≡ 1
zero_alone r t e =
    ⊎_elim
    (λ a. eqb-true (length r) 1 a)
    (λ b. absurd (eqb-false (get_or r 0 0) 48 (not-true (eqb (get_or r 0 0) 48) b) e))
    (or_cases (eqb (length r) 1) (not (eqb (get_or r 0 0) 48)) t)

number_is : (r : List ℕ) (n : ℕ) → is_number r ≡ true → value_of r ≡ n → (n < 100000) × (r ≡ decimal n)
number_is r n t e =
    let a = and_parts (leb 1 (length r)) _ t in
    let b = and_parts (leb (length r) 5) _ a.1 in
    let c = and_parts (every digit r) _ b.1 in
    let some : 0 < length r = leb-true 1 (length r) a.0 in
    let small : value_of r < 100000 = digits_value_short own r 5 c.0 (leb-true (length r) 5 b.0) in
    (subst (λ m. m < 100000) e small, sym (decimal-digits_value own r c.0 some (zero_alone r c.1) (omega arith)) ∙ ap decimal e)

is_decimal : (n : ℕ) → n < 100000 → (is_number (decimal n) ≡ true) × (value_of (decimal n) ≡ n)
is_decimal n h =
    let small : n < 2 ^ 64 = omega arith in
    let ds = decimal n in (
      and_from _ _ (le-leb 1 (length ds) (decimal_nonempty n small))
          (and_from _ _ (le-leb (length ds) 5 (length-decimal-le 5 n (omega arith) h small)) (and_from _ _ (digits_decimal own n small) (no_zero n small))),
      digits_value-decimal own n small,
    )

pub number_tells : NumberTells
number_tells r n = (
  λ p. number_is r n p.0 p.1,
  λ p. subst (λ l. (is_number l ≡ true) × (value_of l ≡ n)) (sym p.1) (is_decimal n p.0),
)
