use Rattle.std.proofs.Common.{sym}
use Rattle.days.proofs.Answered.{date_answers, number_answers, when_some, when_none}
use Rattle.days.proofs.lookup.look_up.Goals as goal

pub returns-then-is_some : goal.returns-then-is_some
returns-then-is_some c =
    let p = when_some c.read.result _ _ c.read.ensures (sym c.if-is_some.ensures) in
    date_answers c.args.line.now c.read-then-is_some.result p.1.0 c.read-then-is_some.ensures.exact

pub returns : goal.returns
returns c =
    let p = rw c.in_ok-number.ensures.ok_part at c.number_in.ensures in
    let f = when_none c.read.result _ _ c.read.ensures (sym c.if-is_some.ensures) in
    number_answers c.args.line.now c.in_ok-number.number c.try_from.result f p.0 p.1 c.try_from.ensures
