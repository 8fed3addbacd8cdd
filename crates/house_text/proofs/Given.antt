-- What a value that is read stands for. Assumes nothing.
use Rattle.std.proofs.Common.{◌≡◌, ℕ, List, Result, Ok, Err, ap, ◌∙◌, arith}
use Rattle.reading.specs.Reading.{Out, ok, after, give}
use Rattle.reading.specs.Agree.{Takes, rest}
use Rattle.reading.specs.declared.reader.Reader.{Reader}
use Rattle.reading.specs.declared.fault.Fault.{Fault}
use Rattle.house_text.specs.ExpiryText.{counted}
use Rattle.house_text.specs.LockText.{lock_body}
use Rattle.calendar.specs.Values.{day_eq}
use Rattle.calendar.specs.declared.day.Day.{Day}
use Rattle.std.proofs.lemmas.Bool.{cond-true, lt-ltb}
use Rattle.house.specs.Expiries.{day_of, span_of, years_of}
use Rattle.house.specs.Locks.{lock_of, ceiling_of, lock_passage_of}
use Rattle.house.specs.ValuesLemmas.{count_eq, level_eq}
use Rattle.house.specs.declared.count.Count.{Count}
use Rattle.house.specs.declared.expiry.ExpiryPassage.TheVariants.{Cap, Add, Years}
use Rattle.house.specs.declared.level.Level.{Level}
use Rattle.house.specs.declared.lock.LockPassage.TheVariants.{Most}

given : {V : Type 0} (f : ℕ → V) (o : Out ℕ) (n : ℕ) (rest : List ℕ) (v : V) → o ≡ ok n rest → f n ≡ v → after o (λ n. give (f n)) ≡ ok v rest
given f o n rest v e h = ap (λ o. after o (λ n. give (f n))) e ∙ ap (λ v. ok v rest) h

pub cap_given : (d : Day) (o : Out ℕ) (rest : List ℕ) → o ≡ ok d.number rest → after o (λ n. give (Cap (day_of n))) ≡ ok (Cap d) rest
cap_given d o rest e =
    let l = d.low in
    let h = d.high in
    given (λ n. Cap (day_of n)) o d.number rest (Cap d) e (ap Cap (day_eq (day_of d.number) d (omega arith)))

pub add_given : (s : Count 36500) (o : Out ℕ) (rest : List ℕ) → o ≡ ok s.count rest → after o (λ n. give (Add (span_of n))) ≡ ok (Add s) rest
add_given s o rest e =
    let l = s.low in
    let h = s.high in
    given (λ n. Add (span_of n)) o s.count rest (Add s) e (ap Add (count_eq (span_of s.count) s (omega arith)))

pub years_given : (y : Count 100) (o : Out ℕ) (rest : List ℕ) → o ≡ ok y.count rest → after o (λ n. give (Years (years_of n))) ≡ ok (Years y) rest
years_given y o rest e =
    let l = y.low in
    let h = y.high in
    given (λ n. Years (years_of n)) o y.count rest (Years y) e (ap Years (count_eq (years_of y.count) y (omega arith)))

lock_given : (l : Level 3) (o : Out ℕ) (rest : List ℕ) → o ≡ ok l.level rest → after o (λ n. give (lock_of n)) ≡ ok l rest
lock_given l o rest e = let h = l.high in given lock_of o l.level rest l e (level_eq (lock_of l.level) l (omega arith))

-- a level that is taken is the lock's whole body
pub lock_taken : (r s : Reader) (result : Result (Level 3) Fault) → Takes r s 1 (λ l. l.level) (counted 1 3) result → Takes r s 0 (λ x. x) lock_body result
lock_taken r s (Ok l) (t, (low, within, read)) = (t, (omega arith, within, lock_given l (counted 1 3 (rest r)) _ read))
lock_taken r s (Err e) (t, (low, within, read)) = (t, (omega arith, within, ap (λ o. after o (λ n. give (lock_of n))) read))

pub most_given : (c : Level 2) (o : Out ℕ) (rest : List ℕ) → o ≡ ok c.level rest → after o (λ n. give (lock_passage_of n)) ≡ ok (Most c) rest
most_given c o rest e =
    let h = c.high in
    given lock_passage_of o c.level rest (Most c) e
    (cond-true _ _ _ (lt-ltb c.level 3 (omega arith)) ∙ ap Most (level_eq (ceiling_of c.level) c (omega arith)))
