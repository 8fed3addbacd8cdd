use Rattle.std.proofs.Common.{ℕ, List, sym, subst}
use Rattle.house_text.specs.ClaimsText.{bits_of}
use Rattle.house_text.proofs.Turns.{claims_more, claims_done}
use Rattle.house_text.proofs.rising.put_claims.Goals as goal

pub put_claim-requires : goal.put_claim-requires
put_claim-requires g c =
    let l = c.loop-k in
    let e = claims_more (bits_of c.args.claims) l.k c.loop-k-test.true in
    g.met.S.Sink.laws.first l.out _ _ (subst (λ (t : List ℕ). g.S.Sink.fits l.out t) e l.invariant.fits)

pub loop-k-preserved : goal.loop-k-preserved
loop-k-preserved g c =
    let l = c.loop-k in
    let out = c.put_claim.new.out in
    let e = claims_more (bits_of c.args.claims) l.k c.loop-k-test.true in
    record {
      fits = g.met.S.Sink.laws.second l.out out _ _ (subst (λ (t : List ℕ). g.S.Sink.fits l.out t) e l.invariant.fits) c.put_claim.ensures;
      left = λ end t. l.invariant.left end (subst (λ (t : List ℕ). g.S.Sink.took l.out t end) (sym e) (g.met.S.Sink.laws.then l.out out end _ _ c.put_claim.ensures t));
    }

pub returns : goal.returns
returns g c =
    let l = c.loop-k in
    l.invariant.left l.out (subst (λ (t : List ℕ). g.S.Sink.took l.out t l.out) (claims_done (bits_of c.args.claims) l.k c.loop-k-test.false) (g.met.S.Sink.laws.none l.out))
