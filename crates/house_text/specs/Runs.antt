-- Numbers and dates as written are the next items, and have their values. Assumes nothing.
use Rattle.std.specs.Prelude.{◌≡◌, ℕ, ◌<◌, ◌≤◌, true, false, ◌&&◌, ◌||◌, List, [], ◌∷◌, ◌++◌, length, Some, None, decimal, ◌==◌, nat_le, slice_index, slice_index_or, refl}
use Rattle.std.proofs.Common.{ap, ◌∙◌, ⊎_elim, arith, length-append}
use Rattle.std.proofs.lemmas.List.{drop_at, get_or_append_left}
use Rattle.std.proofs.lemmas.Bool.{and_parts, and_from, and_left, and_right, or_left, or_right, cond-true, cond-false, cases_Bool, lt-leb, leb-true}
use Rattle.calendar.specs.Text.{digit, is_date, day_in, day_text}
use Rattle.calendar.specs.Texts.{text_tells}
use Rattle.items.specs.Lex.{piece, piece_of_run, run, every, in_run, lower, is_word, is_number, number, date, value_of}
use Rattle.items.specs.Steps.{piece_rest}
use Rattle.items.specs.Numbers.{number_tells}
use Rattle.reading.specs.Reading.{ok, item, item_by}
use Rattle.reading.specs.Locality.{Unbroken}
use Rattle.reading.specs.Items.{item_some}

run_stops : (ds : List ℕ) (s : ℕ) (rest : List ℕ) → every in_run ds ≡ true → in_run s ≡ false → run (ds ++ s ∷ rest) ≡ ds
unfolding run
run_stops [] s rest e h = cond-false _ _ _ h
run_stops (d ∷ ds) s rest e h = let p = and_parts (in_run d) (every in_run ds) e in cond-true _ _ _ p.0 ∙ ap (λ l. d ∷ l) (run_stops ds s rest p.1 h)

digit_runs : (d : ℕ) → digit d ≡ true → in_run d ≡ true
digit_runs d e = or_right (lower d) (digit d || d == 45) (or_left (digit d) (d == 45) e)

every_run : (ds : List ℕ) → every digit ds ≡ true → every in_run ds ≡ true
every_run [] e = refl
every_run (d ∷ ds) e = let p = and_parts (digit d) (every digit ds) e in and_from (in_run d) (every in_run ds) (digit_runs d p.0) (every_run ds p.1)

-- the first byte of a row of digits
first_digit : (ds : List ℕ) → 0 < length ds → every digit ds ≡ true → (48 ≤ slice_index ds 0) × (every lower ds ≡ false)
first_digit [] h e = absurd (omega arith)
first_digit (d ∷ ds) h e =
    let p = and_parts (nat_le 48 d) (nat_le d 57) (and_parts (digit d) (every digit ds) e).0 in
    let top : d ≤ 57 = leb-true d 57 p.1 in
    (leb-true 48 d p.0, and_left (lower d) (every lower ds) (and_left (nat_le 97 d) (nat_le d 122) (lt-leb 97 d (omega arith))))

digits_of : (ds : List ℕ) → is_number ds ≡ true → (0 < length ds) × (every digit ds ≡ true)
digits_of ds t =
    let a = and_parts (nat_le 1 (length ds)) _ t in
    let b = and_parts (nat_le (length ds) 5) _ a.1 in
    (leb-true 1 (length ds) a.0, (and_parts (every digit ds) _ b.1).0)

-- a number below 100000 before a byte that is in no run
pub number_back : (n s : ℕ) (rest : List ℕ) → n < 100000 → in_run s ≡ false → (item (decimal n ++ s ∷ rest) ≡ ok (number (decimal n)) (s ∷ rest)) × (value_of (decimal n) ≡ n)
number_back n s rest h stop =
    let ds = decimal n in
    let bs = ds ++ s ∷ rest in
    let t = (number_tells ds n).1 (h, refl) in
    let g = digits_of ds t.0 in
    let fd = first_digit ds g.0 g.1 in
    let r : run bs ≡ ds = run_stops ds s rest (every_run ds g.1) stop in
    let nw : is_word ds ≡ false = and_right (nat_le 1 (length ds)) (nat_le (length ds) 8 && every lower ds) (and_right (nat_le (length ds) 8) (every lower ds) fd.1) in
    let b : slice_index_or bs 0 0 ≡ slice_index_or ds 0 0 = get_or_append_left ds (s ∷ rest) 0 0 g.0 in
    let p : piece bs ≡ number ds =
    piece_rest bs 0 (slice_index ds 0) b (λ e. omega (arith, fd.0)) (λ e. omega (arith, fd.0)) (λ e. omega (arith, fd.0)) (λ e. omega (arith, fd.0))
    ∙ ap piece_of_run r ∙ cond-false _ _ _ nw ∙ cond-true _ _ _ t.0 in
    let long : 0 < length bs = omega (arith, length-append ds (s ∷ rest)) in
    (item_some bs long ∙ ap (λ q. item_by q bs) p ∙ ap (ok (number ds)) (drop_at ds (s ∷ rest) (length ds) refl), t.1)

unbroken_digits : (ds : List ℕ) → every digit ds ≡ true → Unbroken ds
unbroken_digits [] e = tt
unbroken_digits (d ∷ ds) e =
    let p = and_parts (digit d) (every digit ds) e in
    let low : 48 ≤ d = leb-true 48 d (and_parts (nat_le 48 d) (nat_le d 57) p.0).0 in
    ((λ q. omega arith), unbroken_digits ds p.1)

pub unbroken_decimal : (n : ℕ) → n < 100000 → Unbroken (decimal n)
unbroken_decimal n h = unbroken_digits (decimal n) (digits_of (decimal n) ((number_tells (decimal n) n).1 (h, refl)).0).1

abbrev ten : ℕ → ℕ → ℕ → ℕ → ℕ → ℕ → ℕ → ℕ → List ℕ
ten a b c d e f g h = a ∷ b ∷ c ∷ d ∷ 45 ∷ e ∷ f ∷ 45 ∷ g ∷ h ∷ []

ten_item : (a b c d e f g h : ℕ) (tail : List ℕ) → is_date (ten a b c d e f g h) ≡ true → item (ten a b c d e f g h ++ 41 ∷ tail) ≡ ok (date (ten a b c d e f g h)) (41 ∷ tail)
ten_item a b c d e f g h tail t =
    let r = ten a b c d e f g h in
    let bs = r ++ 41 ∷ tail in
    let x = and_parts (digit a && digit b) ((digit c && digit d) && ((digit e && digit f) && (digit g && digit h))) t in
    let y = and_parts (digit c && digit d) ((digit e && digit f) && (digit g && digit h)) x.1 in
    let z = and_parts (digit e && digit f) (digit g && digit h) y.1 in
    let ab = and_parts (digit a) (digit b) x.0 in
    let cd = and_parts (digit c) (digit d) y.0 in
    let ef = and_parts (digit e) (digit f) z.0 in
    let gh = and_parts (digit g) (digit h) z.1 in
    let runs : every in_run r ≡ true =
    and_from _ _ (digit_runs a ab.0) (and_from _ _ (digit_runs b ab.1) (and_from _ _ (digit_runs c cd.0) (and_from _ _ (digit_runs d cd.1)
    (and_from _ _ (digit_runs e ef.0) (and_from _ _ (digit_runs f ef.1) (and_from _ _ (digit_runs g gh.0) (and_from _ _ (digit_runs h gh.1) refl))))))) in
    let low : 48 ≤ a = leb-true 48 a (and_parts (nat_le 48 a) (nat_le a 57) ab.0).0 in
    let p : piece bs ≡ date r = piece_rest bs 0 a refl (λ q. omega arith) (λ q. omega arith) (λ q. omega arith) (λ q. omega arith) ∙ ap piece_of_run (run_stops r 41 tail runs refl) ∙ cond-true _ _ _ t in
    item_some bs (omega arith) ∙ ap (λ q. item_by q bs) p

-- what is read as a day has the form of a date
dated : (r : List ℕ) (n : ℕ) → day_in r ≡ Some n → is_date r ≡ true
dated r n e =
    ⊎_elim
    (λ t. t)
    (λ f. let none : day_in r ≡ None = cond-false _ _ _ f in let z : ◌≡◌ {A = ℕ} 0 1 = cc in absurd (omega arith))
    (cases_Bool (is_date r))

-- the text of a day before a closing bracket
pub date_back : (n : ℕ) (tail : List ℕ) → 1 ≤ n → n ≤ 84005 → (item (day_text n ++ 41 ∷ tail) ≡ ok (date (day_text n)) (41 ∷ tail)) × (day_in (day_text n) ≡ Some n)
unfolding day_text
date_back n tail low high =
    let e : day_in (day_text n) ≡ Some n = (text_tells (day_text n) n).1 ((low, high), refl) in
    (ten_item _ _ _ _ _ _ _ _ tail (dated (day_text n) n e), e)

pub unbroken_date : (n : ℕ) → Unbroken (day_text n)
unfolding day_text
unbroken_date n = ((λ q. omega arith), ((λ q. omega arith), ((λ q. omega arith), ((λ q. omega arith), ((λ q. omega arith), ((λ q. omega arith), ((λ q. omega arith), ((λ q. omega arith), ((λ q. omega arith), ((λ q. omega arith), tt))))))))))

pub length_date : (n : ℕ) → length (day_text n) ≡ 10
unfolding day_text
length_date n = refl
