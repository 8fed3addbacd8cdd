use Rattle.std.proofs.Common.{◌≡◌, sym, refl, ◌∙◌, arith}
use Rattle.std.proofs.lemmas.Option.{MatchOption-at_some, MatchOption-at_none}
use Rattle.std.proofs.lemmas.Result.{IfErr-at_err, err_from_is_err_and}
use Rattle.reading.specs.Agree.{fault_of}
use Rattle.reading.specs.Reading.{no_item_fault}
use Rattle.reading.specs.Items.{item_end, item_at_lem, no_item_at}
use Rattle.reading.proofs.reader.Reader.item.Goals as goal

pub returns-then-at-self : goal.returns-then-at-self
returns-then-at-self c =
    let r = c.args.self.now in
    let h = r.inside in
    rw c.unfinished.ensures (refl, (omega arith, h, item_end r.text.now r.at c.if-at-self.true))

pub returns-in_err-item : goal.returns-in_err-item
returns-in_err-item c =
    let r = c.args.self.now in
    let h = r.inside in
    let p = err_from_is_err_and c.from_residual.result c.from_residual.ensures.1 in
    let none = c.in_err-item.ensures.ok_part in
    let out = p.2 ∙ IfErr-at_err (λ f. f ≡ fault_of no_item_fault r.at) (sym c.in_err-item.ensures.value) (rw none c.no_item.ensures) in
    rw (p.1, out) (refl, (omega arith, h, no_item_at r.text.now r.at c.if-at-self.false (MatchOption-at_none _ _ none c.item_at.ensures.item)))

pub invariant_of-self : goal.invariant_of-self
invariant_of-self c =
    let r = c.args.self.now in
    let i = MatchOption-at_some _ _ _ c.in_ok-item.ensures.ok_part c.item_at.ensures.item in
    let l = item_at_lem r.text.now r.at c.in_ok-item.item c.if-at-self.false i.1 in
    record { inside = rw c.item_size.ensures l.1 }

pub returns : goal.returns
returns c =
    let r = c.args.self.now in
    let i = MatchOption-at_some _ _ _ c.in_ok-item.ensures.ok_part c.item_at.ensures.item in
    rw c.item_size.ensures (refl, item_at_lem r.text.now r.at c.in_ok-item.item c.if-at-self.false i.1)
