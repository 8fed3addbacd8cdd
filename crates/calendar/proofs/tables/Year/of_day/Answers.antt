use Rattle.std.proofs.Common.{◌-◌, ◌+◌, ◌<◌, ◌≤◌, leb, rules}
use Rattle.std.proofs.lemmas.List.Sorted.{IsPartitionPoint-from_clause, IsPartitionedBy-leb}
use Rattle.calendar.specs.Calendar.{before_year}
use Rattle.calendar.specs.Rules.{years}
use Rattle.calendar.proofs.Search.{years_rise, year_by}
use Rattle.calendar.proofs.tables.Year.of_day.Goals as goal
use Rattle.calendar.proofs.tables.Year.of_day.Goals.{After-partition_point}

found : (c : After-partition_point) → (1 ≤ c.partition_point.result) × (c.partition_point.result - 1 < 230) × (before_year (c.partition_point.result - 1) ≤ c.args.day.number) × (c.args.day.number < before_year (c.partition_point.result - 1 + 1))
found c =
    let n = c.args.day.number in
    year_by n c.partition_point.result
    (IsPartitionPoint-from_clause (λ y. leb y n) years _ c.partition_point.ensures.partitioned (IsPartitionedBy-leb (λ y. y) years n years_rise) (λ a r q k. search rules))
    c.partition_point.ensures.bound c.args.day.high

pub overflow_sub-result : goal.overflow_sub-result
overflow_sub-result c = (found (goal.at.overflow_sub-result c).After-partition_point).0

pub invariant_of-result : goal.invariant_of-result
invariant_of-result c = record { inside = (found (goal.at.invariant_of-result c).After-partition_point).1 }

pub returns : goal.returns
returns c = let f = found (goal.at.returns c).After-partition_point in (f.2, f.3)
