-- The lines of a text, one after the other: a fault's line is left, and reading goes on after it. Assumes nothing.
use Rattle.std.specs.Prelude.{◌≡◌, ℕ, ◌<◌, ◌≤◌, List, length, drop, Ok, Err, Result, ◌==◌}
use Rattle.std.specs.List.{after_first}
use Rattle.reading.specs.Reading.{Out, ok, bad}
use Rattle.reading.specs.Agree.{flaw}
use Rattle.reading.specs.declared.fault.Fault.{Fault}
use Rattle.forms.specs.Grammar.{Line}
use Rattle.forms.specs.Meaning.{line_of}
use Rattle.forms.specs.declared.form.Form.{Form}

-- the text after the next newline
abbrev pub after_line : List ℕ → List ℕ
after_line bs = after_first (λ b. b == 10) bs

-- the line at a place gave the form or the fault r, and the next line begins at the place next
abbrev pub LineRead : {L P : Type 0} → List ℕ → ℕ → Out (Line L P) → Result (Form L P) Fault → ℕ → Type 0
LineRead t at o (Ok x) next = (at < next) × (next ≤ length t) × (o ≡ ok (line_of x) (drop next t))
LineRead t at o (Err e) next =
    (at < next) × (next ≤ length t) × (at ≤ e.at) × (e.at ≤ length t) × (o ≡ bad (flaw e) (drop e.at t)) × (drop next t ≡ after_line (drop e.at t))
