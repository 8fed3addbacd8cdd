use Rattle.std.proofs.Common.{rules, ◌≡◌, false, codes, ◌∙◌, arith}
use Rattle.std.specs.Str.{bytes_eq}
use Rattle.std.proofs.lemmas.Bool.{cond-false}
use Rattle.std.proofs.lemmas.Slice.Eq.{text_from_reads}
use Rattle.house_text.proofs.Given.{cap_given, add_given, years_given}
use Rattle.house_text.proofs.expiry.StepTextPartText.read_args.Goals as goal

pub returns-in_ok-spaced_day-in-cap : goal.returns-in_ok-spaced_day-in-cap
returns-in_ok-spaced_day-in-cap c =
    let told = c.in_ok-spaced_day-in-cap.ensures in
    let e : c.args.word.now ≡ codes "cap" = text_from_reads _ (codes "cap") (omega arith) (search rules) in
    (told.0, (omega (arith, told.1.0), told.1.1, rw e (cap_given c.in_ok-spaced_day-in-cap.field-0 _ _ told.1.2)))

pub returns-in_ok-take_count-in-add : goal.returns-in_ok-take_count-in-add
returns-in_ok-take_count-in-add c =
    let told = c.in_ok-take_count-in-add.ensures in
    let e : c.args.word.now ≡ codes "add" = text_from_reads _ (codes "add") (omega arith) (search rules) in
    (told.0, (omega (arith, told.1.0), told.1.1, rw e (add_given c.in_ok-take_count-in-add.field-0 _ _ told.1.2)))

pub returns-in_ok-take_count-in_default : goal.returns-in_ok-take_count-in_default
returns-in_ok-take_count-in_default c =
    let told = c.in_ok-take_count-in_default.ensures in
    let cap : bytes_eq c.args.word.now (codes "cap") ≡ false = search rules in
    let add : bytes_eq c.args.word.now (codes "add") ≡ false = search rules in
    (told.0, (omega (arith, told.1.0), told.1.1, cond-false _ _ _ cap ∙ cond-false _ _ _ add ∙ years_given c.in_ok-take_count-in_default.field-0 _ _ told.1.2))
