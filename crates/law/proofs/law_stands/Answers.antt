use Rattle.law.proofs.Told.{law}
use Rattle.law.proofs.Rule.{order_one}
use Rattle.law.proofs.Once.{told_one}
use Rattle.law.proofs.law_stands.Goals as goal

pub returns : goal.returns
returns g c =
    let laws = g.met.K.LabelKind.lawful.laws in
    let means = g.K.LabelKind.means in
    record { law = λ n m s t es. law laws g.met.K.LabelKind.freeing n m s t es; order = order_one means.kind; answer = told_one laws means.free }
