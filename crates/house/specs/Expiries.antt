-- Expiries: 0 is empty, and any other number a day; the later of two. Assumes nothing.
use Rattle.std.specs.Prelude.{◌≡◌, ℕ, ◌+◌, ◌*◌, min, max, cond, ◌==◌, nat_lt}
use Rattle.std.proofs.Common.{arith}
use Rattle.calendar.specs.declared.day.Day.{Day}
use Rattle.kinds.specs.Meanings.{Meaning}
use Rattle.house.specs.declared.expiry.Expiry.{Expiry}
use Rattle.house.specs.declared.count.Count.{Count}
use Rattle.house.specs.declared.expiry.ExpiryPassageRow.{ExpiryPassageRow}
use Rattle.house.specs.declared.expiry.ExpiryPassage.{ExpiryPassage}
use Rattle.house.specs.declared.expiry.ExpiryPassage.TheVariants.{Pass, Cap, Add, Years}
use Rattle.house.specs.declared.expiry.ExpiryPassageRow.TheVariants.{Pass as PassRow, Cap as CapRow, Add as AddRow, Years as YearsRow}
use Rattle.house.specs.Ranges.{nearest}

-- n days later: an empty expiry stays empty, and a sum over the last day becomes that day
abbrev pub shifted : ℕ → ℕ → ℕ
shifted n v = cond (v == 0) 0 (min (v + n) 84005)

abbrev pub expiry_carry : ExpiryPassage → ℕ → ℕ
expiry_carry Pass v = v
expiry_carry (Cap d) v = min v d.number
expiry_carry (Add s) v = shifted s.count v
expiry_carry (Years y) v = shifted (365 * y.count) v

-- the passage is that of n days
abbrev pub IsAdd : ℕ → ExpiryPassage → Type 0
IsAdd n Pass = ⊥
IsAdd n (Cap d) = ⊥
IsAdd n (Add s) = s.count ≡ n
IsAdd n (Years y) = ⊥

-- the passage is that of n years
abbrev pub IsYears : ℕ → ExpiryPassage → Type 0
IsYears n Pass = ⊥
IsYears n (Cap d) = ⊥
IsYears n (Add s) = ⊥
IsYears n (Years y) = y.count ≡ n

-- any number stands for the nearest in the range
abbrev pub expiry_of : ℕ → Expiry
expiry_of n = record { number = min n 84005; high = omega arith }

abbrev pub day_of : ℕ → Day
day_of n = record { number = nearest 1 84005 n; low = omega arith; high = omega arith }

abbrev pub span_of : ℕ → Count 36500
span_of n = record { count = nearest 1 36500 n; low = omega arith; high = omega arith }

abbrev pub years_of : ℕ → Count 100
years_of n = record { count = nearest 1 100 n; low = omega arith; high = omega arith }

abbrev pub expiry_passage_of : ExpiryPassageRow → ExpiryPassage
expiry_passage_of PassRow = Pass
expiry_passage_of (CapRow n) = Cap (day_of n)
expiry_passage_of (AddRow n) = Add (span_of n)
expiry_passage_of (YearsRow n) = Years (years_of n)

-- the row of a form and a number: 1 is cap, 2 is add, 3 is years, and any other form pass
abbrev pub row_of : ℕ → ℕ → ExpiryPassageRow
row_of form n = cond (form == 1) (CapRow n) (cond (form == 2) (AddRow n) (cond (form == 3) (YearsRow n) PassRow))

abbrev pub expiry_means : Meaning Expiry ExpiryPassage ℕ ExpiryPassageRow
expiry_means = record {
  Value = ℕ;
  value = λ expiry. expiry.number;
  kind = record { empty = 0; join = max; carry = expiry_carry };
  free = λ d v. nat_lt v d;
  stands = expiry_of;
  leads = expiry_passage_of;
}
