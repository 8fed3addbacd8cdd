-- The expiry in text, `(until DATE)`, and its passage: `(cap DATE)`, `(add N)` with N from 1 to 36500, or `(years N)` with N from 1 to 100. Assumes nothing.
use Rattle.std.specs.Prelude.{ℕ, Bool, true, false, cond, ◌||◌, List, [], ◌∷◌, codes, decimal, ◌==◌}
use Rattle.std.specs.Str.{bytes_eq}
use Rattle.calendar.specs.Text.{day_text}
use Rattle.reading.specs.Reading.{Read, then, give, pick, spaces, dated, counts_in}
use Rattle.house.specs.declared.expiry.Expiry.{Expiry}
use Rattle.house.specs.declared.expiry.ExpiryPassage.{ExpiryPassage}
use Rattle.house.specs.declared.expiry.ExpiryPassage.TheVariants.{Pass, Cap, Add, Years}
use Rattle.house.specs.Expiries.{expiry_of, day_of, span_of, years_of}
use Rattle.parts.specs.Parts.{Part}

-- a space and a number from low to high
abbrev pub counted : ℕ → ℕ → Read ℕ
counted low high = then (pick spaces) (λ _. pick (counts_in low high))

abbrev pub until_word : List ℕ → Bool
until_word w = bytes_eq w (codes "until")

abbrev pub until_body : Read Expiry
until_body = then dated (λ n. give (expiry_of n))

abbrev pub until_part : Part Expiry
until_part = record {
  mine = until_word;
  body = λ _. until_body;
  none = expiry_of 0;
  empty = λ e. (e.number == 0);
  first = λ _. codes "until";
  args = λ e. 32 ∷ day_text e.number;
}

abbrev pub step_word : List ℕ → Bool
step_word w = bytes_eq w (codes "cap") || (bytes_eq w (codes "add") || bytes_eq w (codes "years"))

abbrev pub step_body : List ℕ → Read ExpiryPassage
step_body w bs =
    cond (bytes_eq w (codes "cap")) (then dated (λ n. give (Cap (day_of n))) bs)
    (cond (bytes_eq w (codes "add")) (then (counted 1 36500) (λ n. give (Add (span_of n))) bs) (then (counted 1 100) (λ n. give (Years (years_of n))) bs))

abbrev pub lets_all : ExpiryPassage → Bool
lets_all Pass = true
lets_all (Cap d) = false
lets_all (Add s) = false
lets_all (Years y) = false

abbrev pub step_first : ExpiryPassage → List ℕ
step_first Pass = []
step_first (Cap d) = codes "cap"
step_first (Add s) = codes "add"
step_first (Years y) = codes "years"

abbrev pub step_args : ExpiryPassage → List ℕ
step_args Pass = []
step_args (Cap d) = 32 ∷ day_text d.number
step_args (Add s) = 32 ∷ decimal s.count
step_args (Years y) = 32 ∷ decimal y.count

abbrev pub step_part : Part ExpiryPassage
step_part = record {
  mine = step_word;
  body = step_body;
  none = Pass;
  empty = lets_all;
  first = step_first;
  args = step_args;
}
