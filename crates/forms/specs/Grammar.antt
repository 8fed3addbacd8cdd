-- The forms, one on a line. Assumes nothing.
use Rattle.std.specs.Prelude.{ℕ, true, false, cond, List, codes}
use Rattle.std.specs.Str.{bytes_eq}
use Rattle.items.specs.Lex.{Piece}
use Rattle.reading.specs.Reading.{Read, then, give, pick, by_sort, Choice, take_it, refuse, not_allowed, no_run, opens, closes, spaces, breaks, counts, dated, form_fault}
use Rattle.parts.specs.Spelling.{Spelling}
use Rattle.forms.specs.declared.form.Keyword.{Keyword}
use Rattle.forms.specs.declared.form.Keyword.TheVariants.{Bring, Own, Link, Unlink, Label, Explain, List as Listing, Discard}

-- what a form says, with the numbers of its places and days
pub data Line (L P : Type 0) : Type 0 where
  bring : ℕ → Line L P
  own : ℕ → L → Line L P
  link : ℕ → ℕ → P → Line L P
  unlink : ℕ → ℕ → Line L P
  label : ℕ → Line L P
  explain : ℕ → ℕ → Line L P
  listing : ℕ → Line L P
  discard : ℕ → ℕ → Line L P

-- the form that a word names
abbrev pub named : List ℕ → Choice Keyword
named w =
    cond (bytes_eq w (codes "bring")) (take_it Bring)
    (cond (bytes_eq w (codes "own")) (take_it Own)
    (cond (bytes_eq w (codes "link")) (take_it Link)
    (cond (bytes_eq w (codes "unlink")) (take_it Unlink)
    (cond (bytes_eq w (codes "label")) (take_it Label)
    (cond (bytes_eq w (codes "explain")) (take_it Explain)
    (cond (bytes_eq w (codes "list")) (take_it Listing)
    (cond (bytes_eq w (codes "discard")) (take_it Discard) (refuse form_fault))))))))

abbrev pub keywords : Piece → Choice Keyword
keywords = by_sort not_allowed not_allowed not_allowed not_allowed named no_run no_run not_allowed

-- a space and the number of a place
abbrev pub place : Read ℕ
place = then (pick spaces) (λ _. pick counts)

-- the closing bracket and the newline
abbrev pub closed : {X : Type 0} → X → Read X
closed x = then (pick closes) (λ _. then (pick breaks) (λ _. give x))

module _ {L P : Type 0} (labels : Spelling L) (passages : Spelling P) where
  -- what follows the name of a form, up to the closing bracket
  abbrev pub said : Keyword → Read (Line L P)
  said Bring = then place (λ p. give (bring p))
  said Own = then place (λ p. then (labels.reading false true) (λ l. give (own p l.0)))
  said Link = then place (λ p. then place (λ q. then (passages.reading false true) (λ t. give (link p q t.0))))
  said Unlink = then place (λ p. then place (λ q. give (unlink p q)))
  said Label = then place (λ p. give (label p))
  said Explain = then place (λ p. then dated (λ d. give (explain p d)))
  said Listing = then dated (λ d. give (listing d))
  said Discard = then place (λ p. then dated (λ d. give (discard p d)))

  -- up to and with the newline
  abbrev pub form_rest : Keyword → Read (Line L P)
  form_rest k = then (said k) closed

  abbrev pub form : Read (Line L P)
  form = then (pick opens) (λ _. then (pick keywords) form_rest)
