use Rattle.std.proofs.Common.{rules, ◌≡◌, ◌≤◌, Bool, true, false, ◌&&◌, leb, length, refl, sym, ◌∙◌}
use Rattle.std.proofs.lemmas.Iterator.{YieldsList-from_slice}
use Rattle.std.proofs.lemmas.Iterator.Search.{all_from_yields_List}
use Rattle.std.proofs.lemmas.Bool.{le-leb}
use borrow.Author.Tests.{tests}
use Rattle.calendar.specs.Text.{digit}
use Rattle.items.proofs.run.is_number_run.Goals.{then-contains, else-contains}
use Rattle.items.proofs.run.is_number_run.Goals as goal

pub returns-else-r-eq1 : goal.returns-else-r-eq1
returns-else-r-eq1 c =
    let r = c.args.r.now in
    elim c.if-contains.branch [
      | then-contains w ↦
          let all = sym (all_from_yields_List digit _ _ _ w.all.ensures.ran (YieldsList-from_slice r cc) (λ x b q k. search (rules, tests))) ∙ sym w.value-is ∙ c.if-all.true in
          let fits : (1 ≤ length r) × (length r ≤ 5) = search rules in
          rw (all, le-leb 1 (length r) fits.0, le-leb (length r) 5 fits.1) (search rules)
      | else-contains w ↦ search rules
    ]

stops : (a b : Bool) → (a && (b && false)) ≡ false
stops true true = refl
stops true false = refl
stops false b = refl

pub returns-else-all : goal.returns-else-all
returns-else-all c =
    let r = c.args.r.now in
    elim c.if-contains.branch [
      | then-contains w ↦
          let all = sym (all_from_yields_List digit _ _ _ w.all.ensures.ran (YieldsList-from_slice r cc) (λ x b q k. search (rules, tests))) ∙ sym w.value-is ∙ c.if-all.false in
          rw (c.if-all.false, all) (sym (stops (leb 1 (length r)) (leb (length r) 5)))
      | else-contains w ↦ search rules
    ]
