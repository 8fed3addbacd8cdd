-- What a line names, and what is printed for it. Assumes nothing.
use Rattle.std.specs.Prelude.{◌≡◌, ℕ, false, ◌⊎◌, List, [], ◌∷◌, ◌++◌, Ok, Err, codes, decimal, Result, MatchResult}
use Rattle.common.specs.Checks.{Check, ◌when◌, Refused}
use Rattle.common.specs.Refusals.{number}
use Rattle.common.specs.declared.refusal.Refusal.{Refusal}
use Rattle.common.specs.declared.refusal.Refusal.TheVariants.{NoItem, OutOfRange}
use Rattle.calendar.specs.Calendar.{InRange}
use Rattle.calendar.specs.Text.{day_text, is_date}
use Rattle.calendar.specs.declared.day.Day.{Day}
use Rattle.items.specs.Lex.{is_number}

-- the line is the date of the day n, or its number
abbrev pub Names : List ℕ → ℕ → Type 0
Names line n = InRange n × ((line ≡ day_text n) ⊎ (line ≡ decimal n))

-- a line of no such form is no item; one that names no day is out of range
abbrev pub checks : List ℕ → List (Check Refusal)
checks line = (NoItem when ((is_date line ≡ false) × (is_number line ≡ false))) ∷ (OutOfRange when ((n : ℕ) → Names line n → ⊥)) ∷ []

-- the answer to a line
abbrev pub Answers : List ℕ → Result Day Refusal → Type 0
Answers line r = MatchResult r (λ x. Names line x.number) (λ e. Refused (checks line) e)

-- what is printed of an answer
abbrev pub printed : Result Day Refusal → List ℕ
printed (Ok x) = day_text x.number ++ (32 ∷ (decimal x.number ++ (10 ∷ [])))
printed (Err e) = codes "refused " ++ (decimal (number e) ++ (10 ∷ []))

-- the text is what is printed for the line
abbrev pub Prints : List ℕ → List ℕ → Type 0
Prints line text = (r : Result Day Refusal) × Answers line r × (text ≡ printed r)
