-- What a form of the code says. Assumes nothing.
use Rattle.std.specs.Prelude.{ℕ, Some, None, Option}
use Rattle.common.specs.declared.number.PlaceNumber.{PlaceNumber}
use Rattle.reading.specs.Reading.{Choice, take_it, refuse, form_fault}
use Rattle.forms.specs.Grammar.{Line, bring, own, link, unlink, label, explain, listing, discard}
use Rattle.forms.specs.declared.form.Form.{Form}
use Rattle.forms.specs.declared.form.Form.TheVariants.{Bring, Own, Link, Unlink, Label, Explain, List as Listing, Discard}

abbrev pub number_of : PlaceNumber → ℕ
number_of p = p.0

abbrev pub line_of : {L P : Type 0} → Form L P → Line L P
line_of (Bring p) = bring (number_of p)
line_of (Own p l) = own (number_of p) l
line_of (Link p q t) = link (number_of p) (number_of q) t
line_of (Unlink p q) = unlink (number_of p) (number_of q)
line_of (Label p) = label (number_of p)
line_of (Explain p d) = explain (number_of p) d.number
line_of (Listing d) = listing d.number
line_of (Discard p d) = discard (number_of p) d.number

abbrev pub choice_of : {X : Type 0} → Option X → Choice X
choice_of (Some x) = take_it x
choice_of None = refuse form_fault
