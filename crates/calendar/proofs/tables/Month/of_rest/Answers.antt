use Rattle.std.proofs.Common.{◌≡◌, ◌+◌, ◌<◌, ◌≤◌, true, false, leb, length, sym, subst, rules}
use Rattle.std.proofs.lemmas.List.Sorted.{IsPartitionPoint-from_clause, IsPartitionedBy-leb}
use Rattle.std.specs.List.Sorted.{IsNonDecreasing, IsPartitionPoint}
use Rattle.calendar.specs.Calendar.{before_month}
use Rattle.calendar.proofs.Search.{starts_rise, month_by}
use Rattle.calendar.proofs.tables.Month.of_rest.Goals as goal
use Rattle.calendar.proofs.tables.Month.of_rest.Goals.{After-partition_point}

found : (c : After-partition_point)
    → (1 ≤ c.partition_point.result) × (c.partition_point.result ≤ 12) × (before_month c.args.long c.partition_point.result ≤ c.args.rest) × (c.partition_point.result < 12 → c.args.rest < before_month c.args.long (c.partition_point.result + 1))
found c =
    let n = c.args.rest in
    let i = c.partition_point.result in
    let xs = c.month_starts.result.now in
    let is = c.month_starts.ensures in
    let rise : IsNonDecreasing xs = subst IsNonDecreasing (sym is) (starts_rise c.args.long) in
    let point : IsPartitionPoint (λ y. leb y n ≡ true) (λ y. leb y n ≡ false) xs i =
    IsPartitionPoint-from_clause (λ y. leb y n) xs i c.partition_point.ensures.partitioned (IsPartitionedBy-leb (λ y. y) xs n rise) (λ a r q k. search rules) in
    month_by c.args.long n i (subst (λ ys. IsPartitionPoint (λ y. leb y n ≡ true) (λ y. leb y n ≡ false) ys i) is point) (subst (λ ys. i ≤ length ys) is c.partition_point.ensures.bound)

pub invariant_of-result : goal.invariant_of-result
invariant_of-result c = let f = found (goal.at.invariant_of-result c).After-partition_point in record { low = f.0; high = f.1 }

pub returns-clause-from : goal.returns-clause-from
returns-clause-from c = (found (goal.at.returns-clause-from c).After-partition_point).2

pub returns-clause-to : goal.returns-clause-to
returns-clause-to c = (found (goal.at.returns-clause-to c).After-partition_point).3
