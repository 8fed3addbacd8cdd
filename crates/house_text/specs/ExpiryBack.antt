-- Expiries and their passages read back. Assumes nothing.
use Rattle.std.specs.Prelude.{◌≡◌, ℕ, ◌<◌, ◌≤◌, true, false, List, ◌∷◌, ◌++◌, codes, decimal, ◌==◌, refl}
use Rattle.std.proofs.Common.{sym, ap, ◌∙◌, arith}
use Rattle.std.specs.Str.{bytes_eq}
use Rattle.std.proofs.lemmas.Bool.{eqb-true, eqb-false, both_ways, cond-true, le-leb}
use Rattle.calendar.specs.Text.{day_text}
use Rattle.items.specs.Lex.{run, word}
use Rattle.reading.specs.Reading.{ok, item, after, then, give, settled, chosen, pick, spaces, days, dated, day_choice, counts_in, ranged, form_fault}
use Rattle.reading.specs.Locality.{Unbroken, Local}
use Rattle.reading.specs.Alikes.{then_local, give_local, pick_local, either_local}
use Rattle.house.specs.declared.expiry.ExpiryPassage.{ExpiryPassage}
use Rattle.house.specs.declared.expiry.ExpiryPassage.TheVariants.{Pass, Cap, Add, Years}
use Rattle.house.specs.Expiries.{expiry_of, day_of, span_of, years_of}
use Rattle.house.specs.ValuesLemmas.{expiry_eq, count_eq}
use Rattle.calendar.specs.Values.{day_eq}
use Rattle.parts.specs.Parts.{Whole}
use Rattle.house_text.specs.ExpiryText.{until_part, counted, step_body, step_word, lets_all, step_first, step_args, step_part}
use Rattle.house_text.specs.Runs.{number_back, unbroken_decimal, date_back, unbroken_date}

-- a space and a date, and a space and a number
day_at : {V : Type 0} (f : ℕ → V) (n : ℕ) (tail : List ℕ) → 1 ≤ n → n ≤ 84005 → then dated (λ n. give (f n)) (32 ∷ (day_text n ++ 41 ∷ tail)) ≡ ok (f n) (41 ∷ tail)
unfolding item
day_at f n tail low high =
    let b = date_back n tail low high in
    let bs = day_text n ++ 41 ∷ tail in
    ap (λ o. after (settled o days bs) (λ n. give (f n))) b.0
    ∙ ap (λ o. after (chosen (day_choice o) (41 ∷ tail) bs) (λ n. give (f n))) b.1

count_at : {V : Type 0} (f : ℕ → V) (high n : ℕ) (tail : List ℕ) → 1 ≤ n → n ≤ high → n < 100000 → then (counted 1 high) (λ n. give (f n)) (32 ∷ (decimal n ++ 41 ∷ tail)) ≡ ok (f n) (41 ∷ tail)
unfolding item
count_at f high n tail low top small =
    let b = number_back n 41 tail small refl in
    let bs = decimal n ++ 41 ∷ tail in
    ap (λ o. after (settled o (counts_in 1 high) bs) (λ n. give (f n))) b.0
    ∙ ap (λ v. after (chosen (ranged 1 high v) (41 ∷ tail) bs) (λ n. give (f n))) b.1
    ∙ ap (λ c. after (chosen c (41 ∷ tail) bs) (λ n. give (f n))) (cond-true _ _ _ (le-leb 1 n low) ∙ cond-true _ _ _ (le-leb n high top))

day_local : {V : Type 0} (f : ℕ → V) → Local (then dated (λ n. give (f n)))
day_local f =
    then_local dated (λ n. give (f n)) (then_local (pick spaces) (λ _. pick days) (pick_local spaces form_fault refl) (λ _. pick_local days form_fault refl))
    (λ n. give_local (f n))

-- a space and a number of a range are local
pub counted_local : {V : Type 0} (f : ℕ → V) (low high : ℕ) → Local (then (counted low high) (λ n. give (f n)))
counted_local f low high =
    then_local (counted low high) (λ n. give (f n))
    (then_local (pick spaces) (λ _. pick (counts_in low high)) (pick_local spaces form_fault refl) (λ _. pick_local (counts_in low high) form_fault refl))
    (λ n. give_local (f n))

until_at : (r : List ℕ) → item (codes "until" ++ 32 ∷ r) ≡ ok (word (codes "until")) (32 ∷ r)
unfolding run item
until_at r = refl

some_day : (n : ℕ) → (n == 0) ≡ false → 1 ≤ n
some_day n e = let z : n ≡ 0 → ⊥ = eqb-false n 0 e in omega arith

pub until_whole : Whole until_part
until_whole = record {
  is_none = λ k e. expiry_eq (expiry_of 0) k (sym (eqb-true k.number 0 e));
  own_word = λ k e. refl;
  word_back = λ k tail e. until_at (day_text k.number ++ 41 ∷ tail);
  body_back = λ k tail e. day_at expiry_of k.number tail (some_day k.number e) k.high ∙ ap (λ j. ok j (41 ∷ tail)) (expiry_eq (expiry_of k.number) k (let h = k.high in omega arith));
  unbroken_word = λ k. ((λ q. omega arith), ((λ q. omega arith), ((λ q. omega arith), ((λ q. omega arith), ((λ q. omega arith), tt)))));
  unbroken_args = λ k. ((λ q. omega arith), unbroken_date k.number);
  body_local = λ w. day_local expiry_of;
}

own_at : (k : ExpiryPassage) → lets_all k ≡ false → step_word (step_first k) ≡ true
own_at Pass e = absurd (both_ways true e refl)
own_at (Cap d) e = refl
own_at (Add s) e = refl
own_at (Years y) e = refl

word_at : (k : ExpiryPassage) (tail : List ℕ) → lets_all k ≡ false → item (step_first k ++ (step_args k ++ 41 ∷ tail)) ≡ ok (word (step_first k)) (step_args k ++ 41 ∷ tail)
unfolding run item
word_at Pass tail e = absurd (both_ways true e refl)
word_at (Cap d) tail e = refl
word_at (Add s) tail e = refl
word_at (Years y) tail e = refl

body_at : (k : ExpiryPassage) (tail : List ℕ) → lets_all k ≡ false → step_body (step_first k) (step_args k ++ 41 ∷ tail) ≡ ok k (41 ∷ tail)
body_at Pass tail e = absurd (both_ways true e refl)
body_at (Cap d) tail e =
    let l = d.low in let h = d.high in
    day_at (λ n. Cap (day_of n)) d.number tail d.low d.high ∙ ap (λ x. ok (Cap x) (41 ∷ tail)) (day_eq (day_of d.number) d (omega arith))
body_at (Add s) tail e =
    let l = s.low in let h = s.high in
    count_at (λ n. Add (span_of n)) 36500 s.count tail s.low s.high (omega arith) ∙ ap (λ x. ok (Add x) (41 ∷ tail)) (count_eq (span_of s.count) s (omega arith))
body_at (Years y) tail e =
    let l = y.low in let h = y.high in
    count_at (λ n. Years (years_of n)) 100 y.count tail y.low y.high (omega arith) ∙ ap (λ x. ok (Years x) (41 ∷ tail)) (count_eq (years_of y.count) y (omega arith))

none_at : (k : ExpiryPassage) → lets_all k ≡ true → Pass ≡ k
none_at Pass e = refl
none_at (Cap d) e = absurd (both_ways false refl e)
none_at (Add s) e = absurd (both_ways false refl e)
none_at (Years y) e = absurd (both_ways false refl e)

unbroken_first : (k : ExpiryPassage) → Unbroken (step_first k)
unbroken_first Pass = tt
unbroken_first (Cap d) = ((λ q. omega arith), ((λ q. omega arith), ((λ q. omega arith), tt)))
unbroken_first (Add s) = ((λ q. omega arith), ((λ q. omega arith), ((λ q. omega arith), tt)))
unbroken_first (Years y) = ((λ q. omega arith), ((λ q. omega arith), ((λ q. omega arith), ((λ q. omega arith), ((λ q. omega arith), tt)))))

unbroken_at : (k : ExpiryPassage) → Unbroken (step_args k)
unbroken_at Pass = tt
unbroken_at (Cap d) = ((λ q. omega arith), unbroken_date d.number)
unbroken_at (Add s) = let h = s.high in ((λ q. omega arith), unbroken_decimal s.count (omega arith))
unbroken_at (Years y) = let h = y.high in ((λ q. omega arith), unbroken_decimal y.count (omega arith))

step_local : (w : List ℕ) → Local (step_body w)
step_local w bs x y c =
    either_local (bytes_eq w (codes "cap")) (bytes_eq w (codes "cap")) refl x y _ _ _ _ (day_local (λ n. Cap (day_of n)) bs x y c)
    (either_local (bytes_eq w (codes "add")) (bytes_eq w (codes "add")) refl x y _ _ _ _ (counted_local (λ n. Add (span_of n)) 1 36500 bs x y c) (counted_local (λ n. Years (years_of n)) 1 100 bs x y c))

pub step_whole : Whole step_part
step_whole = record {
  is_none = none_at;
  own_word = own_at;
  word_back = word_at;
  body_back = body_at;
  unbroken_word = unbroken_first;
  unbroken_args = unbroken_at;
  body_local = step_local;
}
