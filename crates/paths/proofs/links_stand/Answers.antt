use Rattle.paths.proofs.Links.{link_rises, link_turned, circle_iff}
use Rattle.paths.proofs.links_stand.Goals as goal

pub returns : goal.returns
returns g c =
    let k = g.L.Label.kind in
    record {
      rising = record { still = link_rises k; turned = link_turned k };
      circle = circle_iff k;
    }
