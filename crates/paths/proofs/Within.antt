-- What the laws of a kind give of `Within`. Assumes nothing.
use Rattle.std.proofs.Common.{◌≡◌}
use Rattle.paths.specs.Kind.{Kind, Laws, Within}

module _ {V P : Type 0} {k : Kind V P} (laws : Laws k) where
  pub unit_right : (x : V) → k.join x k.empty ≡ x
  unit_right x = cc (laws.unit x, laws.swap x k.empty)

  pub within_trans : (x y z : V) → Within k x y → Within k y z → Within k x z
  within_trans x y z h i = cc (laws.group x y z)

  pub within_both : (x y : V) → Within k x y → Within k y x → x ≡ y
  within_both x y h i = cc (laws.swap x y)

  pub within_join : (x y m : V) → Within k x m → Within k y m → Within k (k.join x y) m
  within_join x y m h i = cc (laws.group x y m)

  pub within_left : (x y : V) → Within k x (k.join x y)
  within_left x y = cc (laws.group x x y, laws.same x)

  pub within_right : (x y : V) → Within k y (k.join x y)
  within_right x y = cc (within_left y x, laws.swap x y)

  pub within_carry : (t : P) (x y : V) → Within k x y → Within k (k.carry t x) (k.carry t y)
  within_carry t x y h = cc (laws.carry_join t x y)
