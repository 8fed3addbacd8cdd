-- Locks keep the laws. Assumes nothing.
use Rattle.std.specs.Prelude.{◌≡◌, ◌==◌, refl}
use Rattle.std.proofs.Common.{sym, ap, ◌∙◌, arith}
use Rattle.std.proofs.lemmas.Bool.{cond_below}
use Rattle.paths.specs.Kind.{FreeLaws}
use Rattle.kinds.specs.Meanings.{Lawful, Tells}
use Rattle.house.specs.Locks.{lock_means, lock_carry, lock_passage_of, ceiling_of}
use Rattle.house.specs.ChainLaws.{chain_laws, chain_freeing}
use Rattle.house.specs.declared.level.Level.{Level}
use Rattle.house.specs.declared.lock.LockPassage.TheVariants.{Pass, Most}
use Rattle.house.specs.ValuesLemmas.{numbers_tell, level_eq}

pub lock_tells : Tells (λ (a b : Level 3). a.level == b.level)
lock_tells = numbers_tell (λ a. a.level) level_eq

pub lock_lawful : Lawful lock_means
lock_lawful = record {
  one_value = level_eq;
  laws = chain_laws lock_carry (elim [ Pass ↦ refl | Most c ↦ omega arith ]) (elim [ Pass ↦ λ v w. refl | Most c ↦ λ v w. omega arith ]);
}

pub lock_freeing : FreeLaws lock_means.kind lock_means.free
lock_freeing = chain_freeing lock_carry (λ d. 2) (λ d h. omega arith)

pub ceiling_row : (c : Level 2) → lock_passage_of c.level ≡ Most c
ceiling_row c = sym (cond_below c.level 3 _ _ (omega arith)) ∙ ap Most (level_eq (ceiling_of c.level) c (omega arith))
