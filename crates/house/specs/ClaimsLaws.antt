-- Sets of claims keep the laws. Assumes nothing.
use Rattle.std.specs.Prelude.{◌≡◌, ◌==◌, Bool, true, false, ◌&&◌, ◌||◌, refl}
use Rattle.std.proofs.Common.{ap}
use Rattle.paths.specs.Kind.{FreeLaws}
use Rattle.kinds.specs.Meanings.{Lawful, Tells}
use Rattle.house.specs.ClaimSets.{claims_means, member}
use Rattle.house.specs.BitLaws.{same_bits, clear_or, clear_none}
use Rattle.house.specs.declared.claims.Claims.{Claims}
use Rattle.house.specs.ValuesLemmas.{numbers_tell, claims_eq}

or_same : (a : Bool) → (a || a) ≡ a
or_same true = refl
or_same false = refl

or_swap : (a b : Bool) → (a || b) ≡ (b || a)
or_swap true true = refl
or_swap true false = refl
or_swap false true = refl
or_swap false false = refl

or_group : (a b c : Bool) → ((a || b) || c) ≡ (a || (b || c))
or_group true b c = refl
or_group false b c = refl

or_and : (a b c : Bool) → ((a || b) && c) ≡ ((a && c) || (b && c))
or_and true true true = refl
or_and true true false = refl
or_and true false true = refl
or_and true false false = refl
or_and false b c = refl

pub claims_tells : Tells (λ (a b : Claims). a.bits == b.bits)
claims_tells = numbers_tell (λ a. a.bits) claims_eq

pub claims_lawful : Lawful claims_means
claims_lawful = record {
  one_value = λ a b e. claims_eq a b (same_bits 64 a.bits b.bits a.fits b.fits (λ k _. ap (λ v. v k) e));
  laws = record {
    same = λ v. λ i. λ k. or_same (v k) i;
    swap = λ v w. λ i. λ k. or_swap (v k) (w k) i;
    group = λ u v w. λ i. λ k. or_group (u k) (v k) (w k) i;
    unit = λ v. refl;
    carry_empty = λ p. refl;
    carry_join = λ p v w. λ i. λ k. or_and (v k) (w k) (member p k) i;
  };
}

pub claims_freeing : FreeLaws claims_means.kind claims_means.free
claims_freeing = record { of_empty = λ d h. clear_none 64; of_join = λ d v w. clear_or 64 v w }
