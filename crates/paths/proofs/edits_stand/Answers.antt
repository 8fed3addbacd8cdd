use Rattle.paths.proofs.Told.{suffices, told, counted, answer_one}
use Rattle.paths.proofs.Steps.{answer_exists}
use Rattle.paths.proofs.Agree.{topological_agrees, edited_agrees, answer_agrees}
use Rattle.paths.proofs.edits_stand.Goals as goal

pub returns : goal.returns
returns g c =
    let m = g.L.Label in
    let laws = g.L.Label.lawful in
    let tells = g.L.Label.telling in
    record {
      suffices = suffices laws;
      reported = λ f h e old new edit is. told laws f h e old new edit m.same tells is;
      counted = λ f h e old new edit is. counted laws f h e old new edit m.same tells is;
      exists = answer_exists laws m.same tells;
      one = answer_one laws;
      agreement = record { rises = topological_agrees; edited = edited_agrees; answer = λ f h agree. answer_agrees f h agree laws };
    }
