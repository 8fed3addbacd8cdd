-- What is said of an edit of some lists, said of equal ones. Assumes nothing.
use Rattle.std.proofs.Common.{◌≡◌, ℕ, List, subst}
use Rattle.common.specs.declared.number.PlaceNumber.{PlaceNumber}
use Rattle.common.specs.declared.number.Rank.{Rank}
use Rattle.kinds.specs.Meanings.{Meaning}
use Rattle.links.specs.declared.row.Link.{Link}
use Rattle.recompute.specs.Tables.{Recomputes}

module _ {L P R S : Type 0} (m : Meaning L P R S) (p : ℕ) (list : List PlaceNumber) (counts : ℕ × ℕ) where
  pub recomputes_at : (n n' : ℕ) (o o' : List R) (xs xs' : List (Link S)) (r r' : List Rank) (b b' a a' : List R) → n ≡ n' → o ≡ o' → xs ≡ xs' → r ≡ r' → b ≡ b' → a ≡ a' →
      Recomputes m n o xs r p b a list counts → Recomputes m n' o' xs' r' p b' a' list counts
  recomputes_at n n' o o' xs xs' r r' b b' a a' en eo ex er eb ea h =
      subst (λ (z : List R). Recomputes m n' o' xs' r' p b' z list counts) ea
      (subst (λ (z : List R). Recomputes m n' o' xs' r' p z a list counts) eb
      (subst (λ (z : List Rank). Recomputes m n' o' xs' z p b a list counts) er
      (subst (λ (z : List (Link S)). Recomputes m n' o' z r p b a list counts) ex
      (subst (λ (z : List R). Recomputes m n' z xs r p b a list counts) eo
      (subst (λ (z : ℕ). Recomputes m z o xs r p b a list counts) en h)))))
