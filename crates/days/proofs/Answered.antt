-- The answer to a line that has the form of a date, and to one that is a number. Assumes nothing.
use Rattle.std.proofs.Common.{◌≡◌, ℕ, ◌≤◌, true, false, eqb, leb, List, length, is_some, Some, None, Ok, Err, Option, Result, sym, ◌∙◌, subst, inl, inr, ⊎_elim, arith, MatchResult}
use Rattle.std.specs.Option as options
use Rattle.std.proofs.lemmas.Bool.{both_ways, and_parts, eqb-true, leb-true, cond-false}
use Rattle.common.specs.declared.refusal.Refusal.{Refusal}
use Rattle.common.specs.declared.refusal.Refusal.TheVariants.{OutOfRange}
use Rattle.calendar.specs.Calendar.{InRange}
use Rattle.calendar.specs.Text.{day_text, day_in, is_date}
use Rattle.calendar.specs.declared.day.Day.{Day}
use Rattle.calendar.specs.Texts.{text_tells}
use Rattle.items.specs.Lex.{is_number, value_of}
use Rattle.items.specs.Numbers.{number_tells}
use Rattle.days.specs.Lookup.{Answers}

-- no text is both a date and a number
apart : (r : List ℕ) → is_date r ≡ true → is_number r ≡ true → ⊥
apart r d n =
    let a : length r ≡ 10 = eqb-true (length r) 10 (and_parts (eqb (length r) 10) _ d).0 in
    let b : length r ≤ 5 = leb-true (length r) 5 (and_parts (leb (length r) 5) _ (and_parts (leb 1 (length r)) _ n).1).0 in
    omega arith

pub date_answers : (line : List ℕ) (r : Result Day Refusal) → is_date line ≡ true
    → MatchResult r (λ x. line ≡ day_text x.number) (λ e. (e ≡ OutOfRange) × ((n : ℕ) → InRange n → line ≡ day_text n → ⊥)) → Answers line r
date_answers line (Ok x) t h = ((x.low, x.high), inl h)
date_answers line (Err e) t h =
    inr (
      λ p. both_ways (is_date line) p.0 t,
      inl (λ n p. ⊎_elim (λ q. h.1 n p.0 q) (λ q. apart line t ((number_tells line n).1 (omega (arith, p.0), q)).0) p.1, h.0),
    )

-- the text of a day is not out of the form of a date
not_day : (line : List ℕ) (n : ℕ) → is_date line ≡ false → InRange n → line ≡ day_text n → ⊥
not_day line n f i q =
    let a : day_in line ≡ Some n = (text_tells line n).1 (i, q) in
    let b : day_in line ≡ None = cond-false (is_date line) _ None f in
    let z : ◌≡◌ {A = ℕ} 0 1 = cc in
    omega arith

pub number_answers : (line : List ℕ) (k : ℕ) (r : Result Day Refusal) → is_date line ≡ false → is_number line ≡ true → k ≡ value_of line
    → MatchResult r (λ x. x.number ≡ k) (λ e. (e ≡ OutOfRange) × (InRange k → ⊥)) → Answers line r
number_answers line k (Ok x) f t e h = ((x.low, x.high), inr ((number_tells line x.number).0 (t, sym e ∙ sym h)).1)
number_answers line k (Err g) f t e h =
    inr (
      λ p. both_ways (is_number line) p.1 t,
      inl (
        λ n p. ⊎_elim (λ q. not_day line n f p.0 q)
            (λ q. let v : value_of line ≡ n = ((number_tells line n).1 (omega (arith, p.0), q)).1 in h.1 (subst InRange (sym (e ∙ v)) p.0)) p.1,
        h.0,
      ),
    )

-- what holds of an answer that is there, and of one that is not
pub when_some : {X : Type 0} (o : Option X) (N : Type 0) (S : X → Type 0) → options.MatchOption o N S → is_some o ≡ true → (x : X) × S x
when_some (Some x) N S h e = (x, h)
when_some None N S h e = let z : ◌≡◌ {A = ℕ} 0 1 = cc in absurd (omega arith)

pub when_none : {X : Type 0} (o : Option X) (N : Type 0) (S : X → Type 0) → options.MatchOption o N S → is_some o ≡ false → N
when_none (Some x) N S h e = let z : ◌≡◌ {A = ℕ} 0 1 = cc in absurd (omega arith)
when_none None N S h e = h
