use Rattle.std.proofs.Common.{◌≡◌, ℕ, ◌+◌, ◌-◌, ◌^◌, ◌<◌, ◌≤◌}
use Rattle.reading.specs.Agree.{rest}
use Rattle.house_text.specs.ClaimsText.{rising}
use Rattle.house_text.proofs.rising.read_any.Given as goal

abbrev pub invariant-loop-ahead : goal.invariant-loop-ahead
invariant-loop-ahead l = record {
  same : l.ahead.text ≡ l.initial.ahead.text;
  after : l.initial.ahead.at ≤ l.ahead.at;
  few : l.low ≤ 64;
  below : l.set < 2 ^ l.low;
  left : (f : ℕ) × (65 ≤ f + l.low) × (rising 65 0 0 (rest l.initial.ahead) ≡ rising f l.low l.set (rest l.ahead));
}

abbrev pub decreases-loop-ahead : goal.decreases-loop-ahead
decreases-loop-ahead l = 65 - l.low
