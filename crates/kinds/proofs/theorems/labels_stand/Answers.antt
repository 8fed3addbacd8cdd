use Rattle.paths.proofs.Joins.{fixed_is_join, join_unique}
use Rattle.paths.proofs.Free.{free_iff}
use Rattle.kinds.proofs.theorems.labels_stand.Goals as goal

pub returns : goal.returns
returns g c =
    let laws = g.met.K.LabelKind.lawful.laws in
    record { balanced = fixed_is_join laws; unique = join_unique laws; free = free_iff laws g.met.K.LabelKind.freeing }
