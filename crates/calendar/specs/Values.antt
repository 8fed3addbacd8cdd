-- Days and dates as values of the code: equal where their numbers are; what a reading of a text answers. Assumes nothing.
use Rattle.std.proofs.Common.{◌≡◌, ℕ, ◌<◌, ◌≤◌, List, IfErr, Some, Ok, Err, Option, Result, sym, ap, arith, MatchResult}
use mathlib.Core.HLevel.{is_prop→PathP}
use native.Mathlib.Bridge.{le_prop}
use Rattle.std.specs.Result.{result_ok}
use Rattle.std.specs.Option.{option_map}
use Rattle.common.specs.declared.refusal.Refusal.{Refusal}
use Rattle.common.specs.declared.refusal.Refusal.TheVariants.{OutOfRange}
use Rattle.calendar.specs.declared.day.Day.{Day}
use Rattle.calendar.specs.declared.date.Date.{Date}
use Rattle.calendar.specs.Calendar.{InRange}
use Rattle.calendar.specs.Text.{day_text, day_in}
use Rattle.calendar.specs.Texts.{text_tells}

pub day_eq : (x y : Day) → x.number ≡ y.number → x ≡ y
day_eq x y e =
    λ i. record {
      number = e i;
      low = is_prop→PathP (λ j. 1 ≤ e j) (λ j. le_prop) x.low y.low i;
      high = is_prop→PathP (λ j. e j ≤ 84005) (λ j. le_prop) x.high y.high i;
    }

pub date_eq : (x y : Date) → x.year ≡ y.year → x.month ≡ y.month → x.day ≡ y.day → x ≡ y
date_eq x y e f g =
    λ i. record {
      year = e i;
      month = f i;
      day = g i;
      year_fits = is_prop→PathP (λ j. e j < 10000) (λ j. le_prop) x.year_fits y.year_fits i;
      month_fits = is_prop→PathP (λ j. f j < 100) (λ j. le_prop) x.month_fits y.month_fits i;
      day_fits = is_prop→PathP (λ j. g j < 100) (λ j. le_prop) x.day_fits y.day_fits i;
    }

-- the number that an answer gives, if it is a day
abbrev pub number_in : Result Day Refusal → Option ℕ
number_in r = option_map (λ x. x.number) (result_ok r)

-- an answer that gives a day's number is that day
pub ok_is : (r : Result Day Refusal) (x : Day) → number_in r ≡ Some x.number → r ≡ Ok x
ok_is (Ok y) x e = let p : y.number ≡ x.number = cc in ap Ok (day_eq y x p)
ok_is (Err f) x e = let z : ◌≡◌ {A = ℕ} 0 1 = cc in absurd (omega arith)

-- what is computed of a text says of which day it is the text
pub text_of : (text : List ℕ) (r : Result Day Refusal) → number_in r ≡ day_in text → IfErr r (λ e. e ≡ OutOfRange)
    → MatchResult r (λ x. text ≡ day_text x.number) (λ e. (e ≡ OutOfRange) × ((n : ℕ) → InRange n → text ≡ day_text n → ⊥))
text_of text (Ok x) e u = ((text_tells text x.number).0 (sym e)).1
text_of text (Err f) e u = (u, λ n h t. let d : day_in text ≡ Some n = (text_tells text n).1 (h, t) in let z : ◌≡◌ {A = ℕ} 0 1 = cc in omega arith)
