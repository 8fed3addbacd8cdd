use Rattle.std.proofs.Common.{le_refl}
use Rattle.paths.proofs.Search.{marked_iff}
use Rattle.paths.proofs.Forward.{forward_marks, marks_exist}
use Rattle.paths.proofs.search_stands.Goals as goal

pub returns : goal.returns
returns g c =
    record {
      marks_forward = λ links rank up v u le marked. (marked_iff links rank up v u marked, forward_marks links rank up v u le marked);
      finds = λ links rank up v u marked marks. marked_iff links rank up v u marked marks u (le_refl (rank u));
      exists = marks_exist;
    }
