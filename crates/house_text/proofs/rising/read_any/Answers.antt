use Rattle.std.proofs.Common.{◌≡◌, ◌≤◌, length, drop, sym, refl, ap, ◌∙◌, subst, arith}
use Rattle.std.proofs.lemmas.Result.{err_from_is_err_and}
use Rattle.reading.specs.Reading.{bad, ok, pick, numbers}
use Rattle.reading.specs.Agree.{flaw, rest}
use Rattle.house_text.specs.ClaimsText.{risen}
use Rattle.house_text.specs.RiseSteps.{rising_done, rising_more, rising_bad, rising_worse, shifted_bit, room}
use Rattle.house_text.proofs.rising.read_any.Goals as goal

pub loop-ahead-init : goal.loop-ahead-init
loop-ahead-init c = record { same = refl; after = omega arith; few = omega arith; below = omega arith; left = (65, omega arith, refl) }

pub returns-in_err-mark : goal.returns-in_err-mark
returns-in_err-mark c =
    let l = c.loop-ahead in
    let inv = l.invariant.left in
    let told = c.in_err-mark.ensures in
    let f = c.in_err-mark.field-0.0 in
    let e = inv.2 ∙ rising_bad inv.0 l.low l.set _ _ _ (omega (arith, inv.1)) (sym c.loop-ahead-test.ensures) told.1.2 in
    let p = err_from_is_err_and c.from_residual.result c.from_residual.ensures.1 in
    rw (p.1, p.2)
    (refl, (omega (arith, told.1.0), subst (λ b. f.at ≤ length b.now) l.invariant.same told.1.1, e ∙ ap (λ b. bad (flaw f) (drop f.at b.now)) l.invariant.same))

pub returns-in_err-n : goal.returns-in_err-n
returns-in_err-n c =
    let l = c.loop-ahead in
    let inv = l.invariant.left in
    let mid = c.mark.new.self.at in
    let space = c.in_ok-mark.ensures in
    let told = c.in_err-n.ensures.reads in
    let f = c.in_err-n.field-0.0 in
    let read : pick (numbers (risen l.low)) (drop mid l.ahead.text.now) ≡ bad (flaw f) (drop f.at l.ahead.text.now) =
    subst (λ b. pick (numbers (risen l.low)) (drop mid b.now) ≡ bad (flaw f) (drop f.at b.now)) space.0 told.1.2 in
    let e = inv.2 ∙ rising_worse inv.0 l.low l.set _ _ _ _ (omega (arith, inv.1)) (sym c.loop-ahead-test.ensures) space.1.2 read in
    let p = err_from_is_err_and c.from_residual-in_err-n.result c.from_residual-in_err-n.ensures.1 in
    rw (p.1, p.2) (
      refl,
      (
        omega (arith, told.1.0, space.1.0),
        subst (λ b. f.at ≤ length b.now) (space.0 ∙ l.invariant.same) told.1.1,
        e ∙ ap (λ b. bad (flaw f) (drop f.at b.now)) l.invariant.same,
      ),
    )

pub loop-ahead-preserved : goal.loop-ahead-preserved
loop-ahead-preserved c =
    let l = c.loop-ahead in
    let inv = l.invariant.left in
    let n = c.in_ok-n.n in
    let mid = c.mark.new.self.at in
    let end = c.take_claim.new.reader in
    let space = c.in_ok-mark.ensures in
    let told = c.in_ok-n.ensures.reads in
    let range = c.in_ok-n.ensures.range in
    let read : pick (numbers (risen l.low)) (drop mid l.ahead.text.now) ≡ ok n (rest end) =
    subst (λ b. pick (numbers (risen l.low)) (drop mid b.now) ≡ ok n (rest end)) space.0 (told.1.2 ∙ ap (λ b. ok n (drop end.at b.now)) (sym told.0)) in
    let more = rising_more inv.0 l.low l.set n _ _ _ (omega (arith, inv.1)) (sym c.loop-ahead-test.ensures) space.1.2 read in
    rw (← shifted_bit n range.1) record {
      same = told.0 ∙ space.0 ∙ l.invariant.same;
      after = omega (arith, told.1.0, space.1.0, l.invariant.after);
      few = omega (arith, range.1);
      below = room l.set l.low n l.invariant.below range.0;
      left = (more.0, omega (arith, more.1, inv.1, range.0), inv.2 ∙ more.2);
    }

pub returns : goal.returns
returns c =
    let l = c.loop-ahead in
    let inv = l.invariant.left in
    let h = l.ahead.inside in
    (l.invariant.same, (omega arith, subst (λ b. l.ahead.at ≤ length b.now) l.invariant.same h, inv.2 ∙ rising_done inv.0 l.low l.set _ (omega (arith, inv.1)) (sym c.loop-ahead-test.ensures) ∙ ap (λ b. ok l.set (drop l.ahead.at b.now)) l.invariant.same))
