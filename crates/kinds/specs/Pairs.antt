-- The pair of two kinds, part by part. Assumes nothing.
use Rattle.std.specs.Prelude.{◌&&◌}
use Rattle.kinds.specs.Meanings.{Meaning}
use Rattle.kinds.specs.declared.pair.Pair.{Pair}

abbrev pub pair_means : {LA PA Ra SA LB PB RB SB : Type 0} → Meaning LA PA Ra SA → Meaning LB PB RB SB → Meaning (Pair LA LB) (Pair PA PB) (Pair Ra RB) (Pair SA SB)
pair_means a b = record {
  Value = a.Value × b.Value;
  value = λ p. (a.value p.first, b.value p.second);
  kind = record {
    empty = (a.kind.empty, b.kind.empty);
    join = λ v w. (a.kind.join v.0 w.0, b.kind.join v.1 w.1);
    carry = λ p v. (a.kind.carry p.first v.0, b.kind.carry p.second v.1);
  };
  free = λ d v. a.free d v.0 && b.free d v.1;
  stands = λ r. record { first = a.stands r.first; second = b.stands r.second };
  leads = λ s. record { first = a.leads s.first; second = b.leads s.second };
}
