-- The smallest kind keeps the laws. Assumes nothing.
use Rattle.std.specs.Prelude.{nat_eq, nat_lt}
use Rattle.std.proofs.Common.{arith, rules}
use Rattle.paths.specs.Kind.{Laws, FreeLaws}
use Rattle.paths.specs.Reports.{Tells}
use Rattle.paths.specs.Examples.{latest}

pub latest_laws : Laws latest
latest_laws =
    record {
      same = λ x. omega arith;
      swap = λ x y. omega arith;
      group = λ x y z. omega arith;
      unit = λ x. omega arith;
      carry_empty = λ t. omega arith;
      carry_join = λ t x y. omega arith;
    }

pub latest_freeing : FreeLaws latest (λ d x. nat_lt x d)
latest_freeing = search rules

pub latest_telling : Tells nat_eq
latest_telling = search rules
