use Rattle.std.proofs.Common.{◌≡◌, None, Err, sym, refl, ◌∙◌}
use Rattle.common.specs.declared.refusal.Refusal.TheVariants.{OutOfRange}
use Rattle.std.proofs.lemmas.Bool.{cond-true, cond-false}
use Rattle.std.proofs.lemmas.Option.{MatchOption-at_some, MatchOption-at_none}
use Rattle.std.proofs.lemmas.Result.{MatchResult-weaker, IfErr-at_err, err_from_is_err_and}
use Rattle.calendar.specs.Calendar.{day_if}
use Rattle.calendar.specs.Text.{is_date, day_in}
use Rattle.calendar.specs.Values.{number_in, text_of}
use Rattle.calendar.proofs.day.Day.read.Goals as goal

pub returns-clause-exact : goal.returns-clause-exact
returns-clause-exact c =
    let p = MatchOption-at_some _ _ _ c.in_ok-date.ensures.ok_part c.read.ensures in
    let e : number_in c.to_day.result ≡ day_in c.args.text.now =
    c.to_day.ensures.computed ∙ (λ i. day_if (p.1 i) (p.2 i) (p.3 i)) ∙ sym (cond-true (is_date c.args.text.now) _ None p.0) in
    text_of c.args.text.now c.to_day.result e (MatchResult-weaker c.to_day.result c.to_day.ensures.exact (λ x h. tt) (λ y h. h.0))

pub returns-in_err-date-clause-exact : goal.returns-in_err-date-clause-exact
returns-in_err-date-clause-exact c =
    let p = err_from_is_err_and c.from_residual.result c.from_residual.ensures.1 in
    let none = c.in_err-date.ensures.ok_part in
    let e = sym (cond-false (is_date c.args.text.now) _ None (MatchOption-at_none _ _ none c.read.ensures)) in
    let out = p.2 ∙ IfErr-at_err (λ f. f ≡ OutOfRange) (sym c.in_err-date.ensures.value) (rw none refl) in
    rw p.1 (text_of c.args.text.now (Err p.0) e out)
