use Rattle.paths.proofs.Joins.{fixed_is_join, join_unique}
use Rattle.paths.proofs.Exists.{label_of, join_exists, joins_balance, join_agree}
use Rattle.paths.proofs.joins_stand.Goals as goal

pub returns : goal.returns
returns g c =
    let laws = g.L.Label.lawful in
    record {
      balanced = fixed_is_join laws;
      balances = λ h rank label up. joins_balance laws h rank up label;
      unique = join_unique laws;
      exists = λ h rank up p. (label_of laws h rank up p, join_exists laws h rank up p);
      depends = join_agree laws;
    }
