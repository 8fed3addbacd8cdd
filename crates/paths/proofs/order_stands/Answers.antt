use Rattle.paths.proofs.Permutes.{upto_length, first_ranked, place_below, ranked_one, moved_ranked}
use Rattle.paths.proofs.Rule.{moved_by_rule}
use Rattle.paths.proofs.order_stands.Goals as goal

pub returns : goal.returns
returns c =
    record {
      first = λ n. (upto_length n, first_ranked n);
      permute = record { places = place_below; one = ranked_one };
      ranked = moved_ranked;
      rule = λ rank new order r marked v u in_v in_u turn s out. moved_by_rule rank new order r marked v u in_v in_u turn s out;
    }
