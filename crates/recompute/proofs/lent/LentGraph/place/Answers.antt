use Rattle.std.proofs.Common.{◌<◌, sym, subst, arith}
use Rattle.recompute.specs.Lent.{size, linked, ranks_of, order_of}
use Rattle.recompute.proofs.Grounds.{place_low}
use Rattle.recompute.proofs.Lents.{sound_of}
use Rattle.recompute.proofs.lent.LentGraph.place.Goals as goal

pub place_with-requires : goal.place_with-requires
place_with-requires g c = let wide = (sound_of c.args.self.now).wide in omega (arith, wide, c.requires)

pub returns : goal.returns
returns g c =
    let G = c.args.self.now in
    record {
      at = c.place_with.ensures;
      inside = subst (λ p. p < size G) (sym c.place_with.ensures) (place_low (size G) (ranks_of G) (order_of G) (linked G) (sound_of G) c.args.r.0 c.requires);
    }
