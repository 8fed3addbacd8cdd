use Rattle.std.proofs.Common.{◌≡◌, ℕ, ◌-◌, ◌<◌, ◌≤◌, List, drop}
use Rattle.order.specs.Marks.{Beyond}
use Rattle.recompute.specs.Lent.{size, linked, ranks_of}
use Rattle.recompute.specs.Pending.{Climbed}
use Rattle.recompute.proofs.walk.walk.Given as goal

abbrev pub invariant-loop-r : goal.invariant-loop-r
invariant-loop-r g l =
    let m = g.K.LabelKind.means in
    let n = size l.graph in
    (l.r ≤ n) × (l.climb.last.0 < n) × (l.climb.changed ≤ l.climb.reported) × (l.climb.reported ≤ l.r) ×
    (drop l.climb.reported l.list ≡ drop l.climb.reported l.initial.list) ×
    Beyond n l.initial.marks.bytes.now l.marks.bytes.now ×
    ((e : ℕ) (before : List g.row.K-Row.Denot) → e < n →
    Climbed m n l.own (ranks_of l.graph) (linked l.graph) e before l.initial.r l.initial.climb l.initial.labels l.initial.marks.bytes.now l.initial.list →
    Climbed m n l.own (ranks_of l.graph) (linked l.graph) e before l.r l.climb l.labels l.marks.bytes.now l.list) ×
    (l.marks.n ≡ l.initial.marks.n) × (l.marks.bytes.ghost_name ≡ l.initial.marks.bytes.ghost_name)

abbrev pub decreases-loop-r : goal.decreases-loop-r
decreases-loop-r g l = size l.graph - l.r
