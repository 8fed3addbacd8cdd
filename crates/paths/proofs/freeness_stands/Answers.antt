use Rattle.std.proofs.Common.{suc, refl, lt-suc_self}
use Rattle.paths.specs.Ledger.{at}
use Rattle.paths.proofs.Exists.{joins_balance}
use Rattle.paths.proofs.Free.{free_iff}
use Rattle.paths.proofs.Explain.{explain_step, ends, ends_kept, ends_same}
use Rattle.paths.proofs.freeness_stands.Goals as goal

pub returns : goal.returns
returns g c =
    let laws = g.L.Label.lawful in
    let free = g.L.Label.freeing in
    record {
      paths = free_iff laws free;
      cause = λ h label bal d day v p π. explain_step laws free h label bal d day π;
      explained = record {
        some = λ h rank label up joins d p day e. ends laws free h rank label up (joins_balance laws h rank up label joins) d (suc (rank p)) day at (lt-suc_self (rank p)) e;
        keeps = λ h label d p u ρ e. ends_kept laws free h label d e;
        one = λ h label d p u w ρ σ single a b. ends_same laws free h label d single a p w at σ refl refl (λ y. refl) b;
      };
    }
