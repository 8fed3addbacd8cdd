use Rattle.std.proofs.Common.{get_or, sym, ◌∙◌}
use Rattle.paths.proofs.Within.{unit_right}
use Rattle.paths.proofs.Recomputes.{on_the_way, at_the_end}
use Rattle.paths.proofs.Loops.{taken_hit, taken_miss, inflow_more}
use Rattle.paths.proofs.walk_stands.Goals as goal

pub returns : goal.returns
returns g c =
    let laws = g.L.Label.lawful in
    record {
      recomputes = record {
        on_the_way = on_the_way laws;
        at_the_end = λ f h rank order e old state edit walk. at_the_end laws h rank order e old state walk f edit;
      };
      gathers = record {
        begun = λ label p own links. sym (unit_right laws own);
        joined = λ label p own gathered links i d l e q. taken_hit laws label p gathered (get_or links i d) q ∙ inflow_more laws label p own gathered links i d l e;
        passed = λ label p own gathered links i d l e q. taken_miss laws label p gathered (get_or links i d) q ∙ inflow_more laws label p own gathered links i d l e;
      };
    }
