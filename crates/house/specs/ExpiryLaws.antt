-- Expiries keep the laws. Assumes nothing.
use Rattle.std.specs.Prelude.{◌≡◌, ℕ, ◌*◌, max, refl, ◌==◌}
use Rattle.std.proofs.Common.{arith}
use Rattle.std.proofs.lemmas.Bool.Decides.{nat_tests}
use Rattle.paths.specs.Kind.{FreeLaws}
use Rattle.kinds.specs.Meanings.{Lawful, Tells}
use Rattle.house.specs.Expiries.{expiry_means, expiry_carry, shifted}
use Rattle.house.specs.ChainLaws.{chain_laws, chain_freeing}
use Rattle.house.specs.declared.expiry.Expiry.{Expiry}
use Rattle.house.specs.declared.expiry.ExpiryPassage.TheVariants.{Pass, Cap, Add, Years}
use Rattle.house.specs.ValuesLemmas.{numbers_tell, expiry_eq}

shifted_max : (n v w : ℕ) → shifted n (max v w) ≡ max (shifted n v) (shifted n w)
shifted_max n v w = grind (arith, nat_tests)

pub expiry_tells : Tells (λ (a b : Expiry). a.number == b.number)
expiry_tells = numbers_tell (λ a. a.number) expiry_eq

pub expiry_lawful : Lawful expiry_means
expiry_lawful = record {
  one_value = expiry_eq;
  laws =
      chain_laws expiry_carry
      (elim [ Pass ↦ refl | Cap d ↦ omega arith | Add s ↦ refl | Years y ↦ refl ])
      (elim [ Pass ↦ λ v w. refl | Cap d ↦ λ v w. omega arith | Add s ↦ λ v w. shifted_max s.count v w | Years y ↦ λ v w. shifted_max (365 * y.count) v w ]);
}

pub expiry_freeing : FreeLaws expiry_means.kind expiry_means.free
expiry_freeing = chain_freeing expiry_carry (λ d. d) (λ d h. h)
