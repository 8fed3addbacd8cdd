use Rattle.std.proofs.Common.{◌-◌}
use Rattle.house_text.specs.ClaimsText.{bits_of, claims_from}
use Rattle.house_text.proofs.rising.put_claims.Given as goal

abbrev pub invariant-loop-k : goal.invariant-loop-k
invariant-loop-k g l = record {
  fits : g.S.Sink.fits l.out (claims_from (bits_of l.claims) l.k (64 - l.k));
  left : (end : _) → g.S.Sink.took l.out (claims_from (bits_of l.claims) l.k (64 - l.k)) end → g.S.Sink.took l.initial.out (claims_from (bits_of l.claims) 0 64) end;
}
