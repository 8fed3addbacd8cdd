-- When the answer of a reading function is what the definition reads at a place of the text. Assumes nothing.
use Rattle.std.specs.Prelude.{◌≡◌, ℕ, ◌+◌, ◌≤◌, List, length, drop, Ok, Err, Result}
use Rattle.reading.specs.Reading.{Out, ok, bad, Flaw, Read}
use Rattle.reading.specs.declared.reader.Reader.{Reader}
use Rattle.reading.specs.declared.fault.Fault.{Fault}

abbrev pub flaw : Fault → Flaw
flaw e = (e.layer, e.refusal)

abbrev pub fault_of : Flaw → ℕ → Fault
fault_of f at = record { layer = f.0; refusal = f.1; at = at }

-- The answer is a value that means x, and a place from low on, and the definition reads x and leaves the text from that place; or both tell one fault, at a
-- place that is not before low by more than one byte.
abbrev pub Reads : {X Y : Type 0} → List ℕ → ℕ → (X → Y) → Out Y → Result (X × ℕ) Fault → Type 0
Reads t low means o (Ok v) = (low ≤ v.1) × (v.1 ≤ length t) × (o ≡ ok (means v.0) (drop v.1 t))
Reads t low means o (Err e) = (low ≤ e.at + 1) × (e.at ≤ length t) × (o ≡ bad (flaw e) (drop e.at t))

-- what the reader has still to read
abbrev pub rest : Reader → List ℕ
rest r = drop r.at r.text.now

-- the answer, with the place after it
abbrev pub placed : {X : Type 0} → Result X Fault → ℕ → Result (X × ℕ) Fault
placed (Ok v) at = Ok (v, at)
placed (Err e) at = Err e

-- The text is the same, and after a fault the reader is as it was.
abbrev pub Stands : {X : Type 0} → Reader → Reader → Result X Fault → Type 0
Stands r s (Ok v) = s.text ≡ r.text
Stands r s (Err e) = s ≡ r

-- By the answer, r became s, in the same text and after a fault as it was, and read what the definition reads there; a fault is before the place k bytes on
-- by one byte at most.
abbrev pub Takes : {X Y : Type 0} → Reader → Reader → ℕ → (X → Y) → Read Y → Result X Fault → Type 0
Takes r s k means read result = Stands r s result × Reads r.text.now (r.at + k) means (read (rest r)) (placed result s.at)
