-- Locks and their passages read back. Assumes nothing.
use Rattle.std.specs.Prelude.{◌≡◌, ℕ, zero, suc, ◌+◌, ◌≤◌, true, false, List, ◌∷◌, ◌++◌, codes, ◌==◌, refl}
use Rattle.std.proofs.Common.{sym, ap, ◌∙◌, arith}
use Rattle.std.proofs.lemmas.Bool.{eqb-true, both_ways, cond-true, lt-ltb}
use Rattle.items.specs.Lex.{run, word, value_from}
use Rattle.reading.specs.Reading.{ok, item}
use Rattle.reading.specs.Locality.{Unbroken}
use Rattle.house.specs.declared.lock.LockPassage.{LockPassage}
use Rattle.house.specs.declared.lock.LockPassage.TheVariants.{Pass, Most}
use Rattle.house.specs.Locks.{lock_of, ceiling_of, lock_passage_of}
use Rattle.house.specs.ValuesLemmas.{level_eq}
use Rattle.parts.specs.Parts.{Whole}
use Rattle.house_text.specs.ExpiryBack.{counted_local}
use Rattle.house_text.specs.LockText.{lock_part, lock_body, most_part, most_body, passes_all, most_first, most_args}

level_back : (n : ℕ) → n ≤ 3 → (n == 0) ≡ false → (tail : List ℕ) → lock_body (32 ∷ (48 + n) ∷ 41 ∷ tail) ≡ ok (lock_of n) (41 ∷ tail)
unfolding run item value_from
level_back zero h e tail = absurd (both_ways true e refl)
level_back (suc zero) h e tail = refl
level_back (suc (suc zero)) h e tail = refl
level_back (suc (suc (suc zero))) h e tail = refl
level_back (suc (suc (suc (suc n)))) h e tail = absurd (omega arith)

lock_at : (n : ℕ) (tail : List ℕ) → item (codes "lock" ++ 32 ∷ (48 + n) ∷ 41 ∷ tail) ≡ ok (word (codes "lock")) (32 ∷ (48 + n) ∷ 41 ∷ tail)
unfolding run item
lock_at n tail = refl

pub lock_whole : Whole lock_part
lock_whole = record {
  is_none = λ k e. level_eq (lock_of 0) k (sym (eqb-true k.level 0 e));
  own_word = λ k e. refl;
  word_back = λ k tail e. lock_at k.level tail;
  body_back = λ k tail e. level_back k.level k.high e tail ∙ ap (λ j. ok j (41 ∷ tail)) (level_eq (lock_of k.level) k (let h = k.high in omega arith));
  unbroken_word = λ k. ((λ q. omega arith), ((λ q. omega arith), ((λ q. omega arith), ((λ q. omega arith), tt))));
  unbroken_args = λ k. ((λ q. omega arith), ((λ q. omega arith), tt));
  body_local = λ w. counted_local lock_of 1 3;
}

ceiling_back : (n : ℕ) → n ≤ 2 → (tail : List ℕ) → most_body (32 ∷ (48 + n) ∷ 41 ∷ tail) ≡ ok (lock_passage_of n) (41 ∷ tail)
unfolding run item value_from
ceiling_back zero h tail = refl
ceiling_back (suc zero) h tail = refl
ceiling_back (suc (suc zero)) h tail = refl
ceiling_back (suc (suc (suc n))) h tail = absurd (omega arith)

most_at : (n : ℕ) (tail : List ℕ) → item (codes "most" ++ 32 ∷ (48 + n) ∷ 41 ∷ tail) ≡ ok (word (codes "most")) (32 ∷ (48 + n) ∷ 41 ∷ tail)
unfolding run item
most_at n tail = refl

own_at : (k : LockPassage) → passes_all k ≡ false → most_part.mine (most_first k) ≡ true
own_at Pass e = absurd (both_ways true e refl)
own_at (Most c) e = refl

word_at : (k : LockPassage) (tail : List ℕ) → passes_all k ≡ false → item (most_first k ++ (most_args k ++ 41 ∷ tail)) ≡ ok (word (most_first k)) (most_args k ++ 41 ∷ tail)
word_at Pass tail e = absurd (both_ways true e refl)
word_at (Most c) tail e = most_at c.level tail

body_at : (k : LockPassage) (tail : List ℕ) → passes_all k ≡ false → most_body (most_args k ++ 41 ∷ tail) ≡ ok k (41 ∷ tail)
body_at Pass tail e = absurd (both_ways true e refl)
body_at (Most c) tail e =
    let h = c.high in
    ceiling_back c.level c.high tail
    ∙ ap (λ j. ok j (41 ∷ tail)) (cond-true _ _ _ (lt-ltb c.level 3 (omega arith)) ∙ ap Most (level_eq (ceiling_of c.level) c (omega arith)))

none_at : (k : LockPassage) → passes_all k ≡ true → Pass ≡ k
none_at Pass e = refl
none_at (Most c) e = absurd (both_ways false refl e)

unbroken_first : (k : LockPassage) → Unbroken (most_first k)
unbroken_first Pass = tt
unbroken_first (Most c) = ((λ q. omega arith), ((λ q. omega arith), ((λ q. omega arith), ((λ q. omega arith), tt))))

unbroken_at : (k : LockPassage) → Unbroken (most_args k)
unbroken_at Pass = tt
unbroken_at (Most c) = ((λ q. omega arith), ((λ q. omega arith), tt))

pub most_whole : Whole most_part
most_whole = record {
  is_none = none_at;
  own_word = own_at;
  word_back = word_at;
  body_back = body_at;
  unbroken_word = unbroken_first;
  unbroken_args = unbroken_at;
  body_local = λ w. counted_local lock_passage_of 0 2;
}
