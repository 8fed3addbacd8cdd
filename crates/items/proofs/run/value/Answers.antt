use Rattle.std.proofs.Common.{sym, ◌∙◌, arith}
use Rattle.items.specs.Numbers.{digit_at, cap_at, pow_more, value_more, value_end}
use Rattle.items.proofs.run.value.Goals as goal

pub overflow_mul-n : goal.overflow_mul-n
overflow_mul-n c = record { fits = omega (arith, cap_at c.loop-b.b-index (omega arith)) }

pub overflow_sub-b : goal.overflow_sub-b
overflow_sub-b c = (digit_at c.args.r.now c.loop-b.b-index c.requires.1 c.loop-b-test.true).0

pub loop-b-preserved : goal.loop-b-preserved
loop-b-preserved c =
    let d = digit_at c.args.r.now c.loop-b.b-index c.requires.1 c.loop-b-test.true in
    rw c.from.ensures (omega (arith, pow_more c.loop-b.b-index, d.1), c.loop-b.invariant.1 ∙ value_more c.args.r.now c.loop-b.b-index c.loop-b.n c.loop-b-test.true)

pub returns : goal.returns
returns c = (
  sym (c.loop-b.invariant.1 ∙ value_end c.args.r.now c.loop-b.b-index c.loop-b.n c.loop-b-test.false),
  omega (arith, cap_at c.loop-b.b-index (omega arith)),
)
