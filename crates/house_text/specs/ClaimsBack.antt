-- Claims and their passages read back. Assumes nothing.
use Rattle.std.specs.Prelude.{◌≡◌, ℕ, zero, suc, ◌+◌, ◌*◌, ◌/◌, ◌%◌, ◌^◌, ◌<◌, ◌≤◌, true, false, ◌⊎◌, List, ◌∷◌, ◌++◌, codes, decimal, ◌==◌, refl}
use Rattle.std.proofs.Common.{sym, ap, subst, ◌∙◌, inl, inr, ⊎_elim, append_assoc, mod-eq_of_lt, arith, lit<}
use Rattle.std.proofs.lemmas.Nat.{mod-pow-add}
use Rattle.std.specs.Str.{bytes_eq}
use Rattle.std.proofs.lemmas.Bool.{eqb-true, eqb-false, cond-true, cond-false, cases_Bool, le-leb}
use Rattle.items.specs.Lex.{run, word, number, value_of}
use Rattle.reading.specs.Reading.{ok, bad, Read, item, after, then, give, settled, chosen, pick, spaces, numbers, ends, form_fault}
use Rattle.reading.specs.Locality.{Unbroken, Local}
use Rattle.reading.specs.Alikes.{then_local, give_local, pick_local, either_local, ends_same}
use Rattle.house.specs.BitSets.{bit}
use Rattle.house.specs.ClaimSets.{claims_of}
use Rattle.house.specs.ValuesLemmas.{claims_eq}
use Rattle.parts.specs.Parts.{Whole}
use Rattle.parts.specs.PairLaws.{unbroken_more}
use Rattle.parts.specs.Ones.{ends_shut}
use Rattle.house_text.specs.ClaimsText.{set_part, claims_part, only_part, claims_from, risen, rising, any_rising, some_rising}
use Rattle.house_text.specs.RiseSteps.{rising_done, rising_more}
use Rattle.house_text.specs.Runs.{number_back, unbroken_decimal}

pub more_in : (bits k m : ℕ) → bit bits k ≡ true → claims_from bits k (suc m) ≡ 32 ∷ (decimal k ++ claims_from bits (k + 1) m)
unfolding claims_from
more_in bits k m e = cond-true _ _ _ e

pub more_out : (bits k m : ℕ) → bit bits k ≡ false → claims_from bits k (suc m) ≡ claims_from bits (k + 1) m
unfolding claims_from
more_out bits k m e = cond-false _ _ _ e

-- a space or the closing bracket comes next
Stops : List ℕ → List ℕ → Type 0
Stops bs tail = ((r : List ℕ) × (bs ≡ 32 ∷ r)) ⊎ (bs ≡ 41 ∷ tail)

stops : (bits k m : ℕ) (tail : List ℕ) → Stops (claims_from bits k m ++ 41 ∷ tail) tail
unfolding Stops claims_from
stops bits k zero tail = inr refl
stops bits k (suc m) tail =
    ⊎_elim
    (λ e. inl ((decimal k ++ claims_from bits (k + 1) m) ++ 41 ∷ tail, ap (λ l. l ++ 41 ∷ tail) (more_in bits k m e)))
    (λ e. subst (λ (l : List ℕ). Stops (l ++ 41 ∷ tail) tail) (sym (more_out bits k m e)) (stops bits (k + 1) m tail))
    (cases_Bool (bit bits k))

space_at : (r : List ℕ) → (ends (item (32 ∷ r)) ≡ false) × (pick spaces (32 ∷ r) ≡ ok tt r)
unfolding item
space_at r = (refl, refl)

number_before : (k : ℕ) (bs tail : List ℕ) → k ≤ 63 → Stops bs tail → (item (decimal k ++ bs) ≡ ok (number (decimal k)) bs) × (value_of (decimal k) ≡ k)
unfolding Stops
number_before k bs tail h =
    ⊎_elim
    (λ s. let n = number_back k 32 s.0 (omega arith) refl in (ap (λ l. item (decimal k ++ l)) s.1 ∙ n.0 ∙ ap (ok (number (decimal k))) (sym s.1), n.1))
    (λ s. let n = number_back k 41 tail (omega arith) refl in (ap (λ l. item (decimal k ++ l)) s ∙ n.0 ∙ ap (ok (number (decimal k))) (sym s), n.1))

rise_at : (k low : ℕ) (bs tail : List ℕ) → k ≤ 63 → low ≤ k → Stops bs tail → pick (numbers (risen low)) (decimal k ++ bs) ≡ ok k bs
rise_at k low bs tail h l s =
    let n = number_before k bs tail h s in
    ap (λ o. settled o (numbers (risen low)) (decimal k ++ bs)) n.0
    ∙ ap (λ v. chosen (risen low v) bs (decimal k ++ bs)) n.1
    ∙ ap (λ c. chosen c bs (decimal k ++ bs)) (cond-true _ _ _ (le-leb k 63 h) ∙ cond-true _ _ _ (le-leb low k l))

low_in : (bits k : ℕ) → bit bits k ≡ true → bits % 2 ^ k + 2 ^ k ≡ bits % 2 ^ (k + 1)
low_in bits k e =
    let b : bits / 2 ^ k % 2 ≡ 1 = eqb-true _ _ e in
    let s : bits % 2 ^ (1 + k) ≡ (bits / 2 ^ k % 2) * 2 ^ k + bits % 2 ^ k = mod-pow-add bits 1 k in
    let t : (bits / 2 ^ k % 2) * 2 ^ k ≡ 1 * 2 ^ k = ap (λ n. n * 2 ^ k) b in
    let u : bits % 2 ^ (k + 1) ≡ bits % 2 ^ (1 + k) = ap (λ n. bits % 2 ^ n) (omega arith) in
    omega arith

low_out : (bits k : ℕ) → bit bits k ≡ false → bits % 2 ^ k ≡ bits % 2 ^ (k + 1)
low_out bits k e =
    let n : bits / 2 ^ k % 2 ≡ 1 → ⊥ = eqb-false _ _ e in
    let b : bits / 2 ^ k % 2 ≡ 0 = omega arith in
    let s : bits % 2 ^ (1 + k) ≡ (bits / 2 ^ k % 2) * 2 ^ k + bits % 2 ^ k = mod-pow-add bits 1 k in
    let t : (bits / 2 ^ k % 2) * 2 ^ k ≡ 0 * 2 ^ k = ap (λ n. n * 2 ^ k) b in
    let u : bits % 2 ^ (k + 1) ≡ bits % 2 ^ (1 + k) = ap (λ n. bits % 2 ^ n) (omega arith) in
    omega arith

rising_back : (bits : ℕ) → bits < 2 ^ 64 → (m k low set f : ℕ) (tail : List ℕ) → k + m ≡ 64 → low ≤ k → set ≡ bits % 2 ^ k → m + 1 ≤ f → rising f low set (claims_from bits k m ++ 41 ∷ tail) ≡ ok bits (41 ∷ tail)
unfolding claims_from
rising_back bits b zero k low set f tail e l s h =
    let all : k ≡ 64 = omega arith in
    let full : set ≡ bits = s ∙ ap (λ n. bits % 2 ^ n) all ∙ mod-eq_of_lt b in
    rising_done f low set (41 ∷ tail) (omega arith) (ends_shut tail) ∙ ap (λ v. ok v (41 ∷ tail)) full
rising_back bits b (suc m) k low set f tail e l s h =
    ⊎_elim
    (λ t.
    let c = claims_from bits (k + 1) m ++ 41 ∷ tail in
    let z : claims_from bits k (suc m) ++ 41 ∷ tail ≡ 32 ∷ (decimal k ++ c) = ap (λ v. v ++ 41 ∷ tail) (more_in bits k m t) ∙ ap (λ v. 32 ∷ v) (append_assoc (decimal k) (claims_from bits (k + 1) m) (41 ∷ tail)) in
    let sp = space_at (decimal k ++ c) in
    let step = rising_more f low set k (32 ∷ (decimal k ++ c)) (decimal k ++ c) c (omega arith) sp.0 sp.1 (rise_at k low c tail (omega arith) l (stops bits (k + 1) m tail)) in
    ap (rising f low set) z ∙ step.2
    ∙ rising_back bits b m (k + 1) (k + 1) (set + 2 ^ k) step.0 tail (omega arith) (omega arith) (ap (λ v. v + 2 ^ k) s ∙ low_in bits k t) (omega (arith, step.1)))
    (λ t. ap (λ v. rising f low set (v ++ 41 ∷ tail)) (more_out bits k m t) ∙ rising_back bits b m (k + 1) low set f tail (omega arith) (omega arith) (s ∙ low_out bits k t) (omega arith))
    (cases_Bool (bit bits k))

whole_back : (bits : ℕ) → bits < 2 ^ 64 → (tail : List ℕ) → rising 65 0 0 (claims_from bits 0 64 ++ 41 ∷ tail) ≡ ok bits (41 ∷ tail)
whole_back bits b tail = rising_back bits b 64 0 0 0 65 tail (omega arith) (omega arith) (omega arith) (omega arith)

some_back : (bits : ℕ) → bits < 2 ^ 64 → (bits == 0) ≡ false → (tail : List ℕ) → some_rising (claims_from bits 0 64 ++ 41 ∷ tail) ≡ ok bits (41 ∷ tail)
unfolding Stops
some_back bits b n tail =
    let opens_it : ends (item (claims_from bits 0 64 ++ 41 ∷ tail)) ≡ false =
    ⊎_elim
    (λ s. ap (λ l. ends (item l)) s.1 ∙ (space_at s.0).0)
    (λ s.
    let x : ok 0 (41 ∷ tail) ≡ ok bits (41 ∷ tail) = sym (rising_done 65 0 0 (41 ∷ tail) (omega arith) (ends_shut tail)) ∙ ap (rising 65 0 0) (sym s) ∙ whole_back bits b tail in
    let y : bits ≡ 0 = cc in
    absurd (eqb-false bits 0 n y))
    (stops bits 0 64 tail) in
    cond-false _ _ _ opens_it ∙ whole_back bits b tail

word_claims : (bs tail : List ℕ) → Stops bs tail → item (codes "claims" ++ bs) ≡ ok (word (codes "claims")) bs
unfolding Stops run item
word_claims bs tail =
    ⊎_elim
    (λ s. subst (λ (l : List ℕ). item (codes "claims" ++ l) ≡ ok (word (codes "claims")) l) (sym s.1) refl)
    (λ s. subst (λ (l : List ℕ). item (codes "claims" ++ l) ≡ ok (word (codes "claims")) l) (sym s) refl)

word_only : (bs tail : List ℕ) → Stops bs tail → item (codes "only" ++ bs) ≡ ok (word (codes "only")) bs
unfolding Stops run item
word_only bs tail =
    ⊎_elim
    (λ s. subst (λ (l : List ℕ). item (codes "only" ++ l) ≡ ok (word (codes "only")) l) (sym s.1) refl)
    (λ s. subst (λ (l : List ℕ). item (codes "only" ++ l) ≡ ok (word (codes "only")) l) (sym s) refl)

unbroken_from : (bits m k : ℕ) → k + m ≤ 64 → Unbroken (claims_from bits k m)
unfolding claims_from
unbroken_from bits zero k h = tt
unbroken_from bits (suc m) k h =
    let next = unbroken_from bits m (k + 1) (omega arith) in
    ⊎_elim
    (λ t. subst (λ (l : List ℕ). Unbroken l) (sym (more_in bits k m t)) ((λ q. omega arith), unbroken_more (decimal k) (claims_from bits (k + 1) m) (unbroken_decimal k (omega arith)) next))
    (λ t. subst (λ (l : List ℕ). Unbroken l) (sym (more_out bits k m t)) next)
    (cases_Bool (bit bits k))

rising_local : (f low set : ℕ) → Local (rising f low set)
unfolding rising
rising_local zero low set bs x y c = (refl, (bs, c, refl, refl))
rising_local (suc f) low set bs x y c =
    either_local (ends (item (bs ++ 10 ∷ x))) (ends (item (bs ++ 10 ∷ y))) (ends_same bs x y c) x y _ _ _ _ (refl, (bs, c, refl, refl))
    (then_local (pick spaces) (λ _. then (pick (numbers (risen low))) (λ n. rising f (n + 1) (set + 2 ^ n))) (pick_local spaces form_fault refl) (λ _. then_local (pick (numbers (risen low))) (λ n. rising f (n + 1) (set + 2 ^ n)) (pick_local (numbers (risen low)) form_fault refl) (λ n. rising_local f (n + 1) (set + 2 ^ n))) bs x y c)

some_local : Local some_rising
some_local bs x y c =
    either_local (ends (item (bs ++ 10 ∷ x))) (ends (item (bs ++ 10 ∷ y))) (ends_same bs x y c) x y (bad form_fault (bs ++ 10 ∷ x)) (bad form_fault (bs ++ 10 ∷ y)) (any_rising (bs ++ 10 ∷ x)) (any_rising (bs ++ 10 ∷ y)) (refl, (bs, c, refl, refl)) (rising_local 65 0 0 bs x y c)

-- a part of rising claims
set_whole : (name : List ℕ) (body : Read ℕ) (none : ℕ) → none < 2 ^ 64 → bytes_eq name name ≡ true → ((bs tail : List ℕ) → Stops bs tail → item (name ++ bs) ≡ ok (word name) bs) → Unbroken name
    → ((bits : ℕ) → bits < 2 ^ 64 → (bits == none) ≡ false → (tail : List ℕ) → body (claims_from bits 0 64 ++ 41 ∷ tail) ≡ ok bits (41 ∷ tail)) → Local body → Whole (set_part name body none)
set_whole name body none small own at unbroken back local = record {
  is_none = λ k e. claims_eq (claims_of none) k (mod-eq_of_lt small ∙ sym (eqb-true k.bits none e));
  own_word = λ k e. own;
  word_back = λ k tail e. at (claims_from k.bits 0 64 ++ 41 ∷ tail) tail (stops k.bits 0 64 tail);
  body_back = λ k tail e. ap (λ o. after o (λ n. give (claims_of n))) (back k.bits k.fits e tail) ∙ ap (λ j. ok j (41 ∷ tail)) (claims_eq (claims_of k.bits) k (mod-eq_of_lt k.fits));
  unbroken_word = λ k. unbroken;
  unbroken_args = λ k. unbroken_from k.bits 64 0 (omega arith);
  body_local = λ w. then_local body (λ n. give (claims_of n)) local (λ n. give_local (claims_of n));
}

pub claims_whole : Whole claims_part
claims_whole = set_whole (codes "claims") some_rising 0 (lit< tt) refl word_claims ((λ q. omega arith), ((λ q. omega arith), ((λ q. omega arith), ((λ q. omega arith), ((λ q. omega arith), ((λ q. omega arith), tt)))))) some_back some_local

pub only_whole : Whole only_part
only_whole = set_whole (codes "only") any_rising 18446744073709551615 (lit< tt) refl word_only ((λ q. omega arith), ((λ q. omega arith), ((λ q. omega arith), ((λ q. omega arith), tt)))) (λ bits b e tail. whole_back bits b tail) (rising_local 65 0 0)
