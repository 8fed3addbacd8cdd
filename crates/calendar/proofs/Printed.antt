-- The text of a day's date, and what `{:02}` and `{:04}` write of the numbers of a date. Assumes nothing.
use Rattle.std.proofs.Common.{◌≡◌, ℕ, ◌+◌, ◌/◌, ◌%◌, ◌^◌, ◌-◌, ◌<◌, ◌≤◌, [], ◌∷◌, ◌++◌, ap, ◌∙◌, ⊎_elim, arith}
use Rattle.std.specs.Fmt.{decimal, format_spec, styled_decimal, padded_integral, char_count}
use Rattle.std.proofs.lemmas.Fmt.{decimal_digit, decimal_step}
use Rattle.std.proofs.lemmas.Bool.{cases_lt}
use Rattle.calendar.specs.Calendar.{year_of, month_of, day_of}
use Rattle.calendar.specs.Text.{two, date_text, day_text}

pub day_printed : (n y m d : ℕ) → (y ≡ year_of n) × (m ≡ month_of n) × (d ≡ day_of n) → date_text y m d ≡ day_text n
unfolding day_text
day_printed n y m d e = λ i. date_text (e.0 i) (e.1 i) (e.2 i)

of_two : (n : ℕ) → 10 ≤ n → n < 100 → decimal n ≡ (48 + n / 10) ∷ (48 + n % 10) ∷ []
of_two n a b = decimal_step n a (omega arith) ∙ ap (λ ds. ds ++ ((48 + n % 10) ∷ [])) (decimal_digit (n / 10) (omega arith))

of_three : (n : ℕ) → 100 ≤ n → n < 1000 → decimal n ≡ (48 + n / 10 / 10) ∷ (48 + n / 10 % 10) ∷ (48 + n % 10) ∷ []
of_three n a b = decimal_step n (omega arith) (omega arith) ∙ ap (λ ds. ds ++ ((48 + n % 10) ∷ [])) (of_two (n / 10) (omega arith) (omega arith))

of_four : (n : ℕ) → 1000 ≤ n → n < 10000 → decimal n ≡ (48 + n / 10 / 10 / 10) ∷ (48 + n / 10 / 10 % 10) ∷ (48 + n / 10 % 10) ∷ (48 + n % 10) ∷ []
of_four n a b = decimal_step n (omega arith) (omega arith) ∙ ap (λ ds. ds ++ ((48 + n % 10) ∷ [])) (of_three (n / 10) (omega arith) (omega arith))

pub padded_two : (n : ℕ) → n < 100 → styled_decimal (format_spec 32 0 4 2 (2 ^ 64 - 1)) n ≡ two n
unfolding padded_integral char_count
padded_two n h =
    ⊎_elim
    (λ q. let a : n / 10 ≡ 0 = omega arith in let b : n % 10 ≡ n = omega arith in rw (decimal_digit n q, a, b))
    (λ q. rw (of_two n q h))
    (cases_lt n 10)

pub padded_four : (n : ℕ) → n < 10000 → styled_decimal (format_spec 32 0 4 4 (2 ^ 64 - 1)) n ≡ two (n / 100) ++ two (n % 100)
unfolding padded_integral char_count
padded_four n h =
    let last : n % 100 % 10 ≡ n % 10 = omega arith in
    let third : n % 100 / 10 ≡ n / 10 % 10 = omega arith in
    let second : n / 100 % 10 ≡ n / 10 / 10 % 10 = omega arith in
    let first : n / 100 / 10 ≡ n / 10 / 10 / 10 = omega arith in
    ⊎_elim
    (λ q.
    let a : n % 10 ≡ n = omega arith in
    let b : n / 10 ≡ 0 = omega arith in
    rw (last, third, second, first, a, b, decimal_digit n q))
    (λ o.
    ⊎_elim
    (λ q.
    let a : n / 10 % 10 ≡ n / 10 = omega arith in
    let b : n / 10 / 10 ≡ 0 = omega arith in
    rw (last, third, second, first, a, b, of_two n o q))
    (λ o'.
    ⊎_elim
    (λ q.
    let a : n / 10 / 10 % 10 ≡ n / 10 / 10 = omega arith in
    let b : n / 10 / 10 / 10 ≡ 0 = omega arith in
    rw (last, third, second, first, a, b, of_three n o' q))
    (λ q. rw (last, third, second, first, of_four n q h))
    (cases_lt n 1000))
    (cases_lt n 100))
    (cases_lt n 10)
