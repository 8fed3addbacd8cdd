-- A number as the set of its bits, at any width. Assumes nothing.
use Rattle.std.specs.Prelude.{◌≡◌, ℕ, zero, suc, ◌-◌, ◌*◌, ◌/◌, ◌%◌, ◌^◌, ◌<◌, ◌≤◌, min, max, Bool, true, false, not, ◌&&◌, ◌||◌, Decides, ◌==◌, nat_eq, nat_lt, refl}
use Rattle.std.proofs.Common.{sym, ap, ◌∙◌, arith, div-one, pow-suc, lt_of_lt_of_le, one-add, pow_mono}
use Rattle.std.proofs.Math.Nat.{zero-div, div-eq_of_lt}
use Rattle.std.specs.Int.Bits.{bit_and, bit_or, or_step, and_step}
use Rattle.std.proofs.Math.Dec.{eqb-suc-zero, eqb-zero-suc, eqb-suc-suc, leb-suc-suc}
use Rattle.std.proofs.lemmas.Nat.{shr-shr, pow_pos, one_shl, or_shr, and_shr}
use Rattle.std.proofs.lemmas.Bool.{not-true, not_from_false, lt-ltb, le-ltb}
use Rattle.std.proofs.lemmas.Bool.Decides.{nat_tests, Decides-eqb, Decides-like, Decides-below_and, same_from_decides}
use Rattle.house.specs.BitSets.{bit, clear}

or_low : (x y : ℕ) → bit_or x y % 2 ≡ max (x % 2) (y % 2)
or_low x y = omega (arith, or_step x y)

and_low : (x y : ℕ) → bit_and x y % 2 ≡ min (x % 2) (y % 2)
and_low x y = omega (arith, and_step x y)

one_of : (p q : ℕ) → p < 2 → q < 2 → (max p q == 1) ≡ (p == 1 || q == 1)
one_of p q h k = grind (arith, nat_tests)

both_of : (p q : ℕ) → p < 2 → q < 2 → (min p q == 1) ≡ (p == 1 && q == 1)
both_of p q h k = grind (arith, nat_tests)

-- union, intersection and the empty set
pub bit_of_or : (a b k : ℕ) → bit (bit_or a b) k ≡ (bit a k || bit b k)
bit_of_or a b k = ap (λ n. nat_eq (n % 2) 1) (or_shr a b k) ∙ ap (λ n. nat_eq n 1) (or_low (a / 2 ^ k) (b / 2 ^ k)) ∙ one_of (a / 2 ^ k % 2) (b / 2 ^ k % 2) (omega arith) (omega arith)

pub bit_of_and : (a b k : ℕ) → bit (bit_and a b) k ≡ (bit a k && bit b k)
bit_of_and a b k = ap (λ n. nat_eq (n % 2) 1) (and_shr a b k) ∙ ap (λ n. nat_eq n 1) (and_low (a / 2 ^ k) (b / 2 ^ k)) ∙ both_of (a / 2 ^ k % 2) (b / 2 ^ k % 2) (omega arith) (omega arith)

pub bit_zero : (k : ℕ) → bit 0 k ≡ false
bit_zero k = ap (λ n. nat_eq (n % 2) 1) (zero-div (2 ^ k))

-- the lowest bit, and those above it
bit_low : (a : ℕ) → bit a 0 ≡ (a % 2 == 1)
bit_low a = ap (λ n. nat_eq (n % 2) 1) (div-one a)

bit_half : (a k : ℕ) → bit (a / 2) k ≡ bit a (suc k)
bit_half a k = ap (λ n. nat_eq (n % 2) 1) (shr-shr a 1 k) ∙ ap (bit a) (one-add k)

same_low : (p q : ℕ) → p < 2 → q < 2 → (p == 1) ≡ (q == 1) → p ≡ q
same_low p q h k e = grind (arith, nat_tests)

-- numbers of w bits are equal where their sets are
pub same_bits : (w a b : ℕ) → a < 2 ^ w → b < 2 ^ w → ((k : ℕ) → k < w → bit a k ≡ bit b k) → a ≡ b
same_bits zero a b p q h = omega arith
same_bits (suc w) a b p q h =
    let halves : a / 2 ≡ b / 2 = same_bits w (a / 2) (b / 2) (omega (arith, pow-suc 2 w)) (omega (arith, pow-suc 2 w)) (λ k l. bit_half a k ∙ h (suc k) (omega arith) ∙ sym (bit_half b k)) in
    let lows : a % 2 ≡ b % 2 = same_low (a % 2) (b % 2) (omega arith) (omega arith) (sym (bit_low a) ∙ h 0 (omega arith) ∙ bit_low b) in
    omega arith

-- no number of w bits has one from w on
pub bit_high : (w a k : ℕ) → a < 2 ^ w → w ≤ k → bit a k ≡ false
bit_high w a k p h = ap (λ n. nat_eq (n % 2) 1) (div-eq_of_lt (lt_of_lt_of_le p (pow_mono h)))

-- the set of one number
pub bit_power : (n k : ℕ) → bit (2 ^ n) k ≡ (k == n)
bit_power zero zero = refl
bit_power zero (suc k) = sym (bit_half 1 k) ∙ bit_zero k ∙ sym (eqb-suc-zero k)
bit_power (suc n) zero =
    let even : 2 ^ suc n % 2 ≡ 0 = omega (arith, pow-suc 2 n) in
    bit_low (2 ^ suc n) ∙ ap (λ m. nat_eq m 1) even ∙ sym (eqb-zero-suc n)
bit_power (suc n) (suc k) =
    let half : 2 ^ suc n / 2 ≡ 2 ^ n = omega (arith, pow-suc 2 n) in
    sym (bit_half (2 ^ suc n) k) ∙ ap (λ m. bit m k) half ∙ bit_power n k ∙ sym (eqb-suc-suc k n)

-- a set of numbers below w, with n
pub bit_with : (w a n k : ℕ) → n < w → bit (bit_or a (1 * 2 ^ n % 2 ^ w)) k ≡ (bit a k || k == n)
bit_with w a n k h = bit_of_or a (1 * 2 ^ n % 2 ^ w) k ∙ ap (λ b. bit a k || b) (ap (λ m. bit m k) (one_shl n w h) ∙ bit_power n k)

-- the set of all numbers below w
pub bit_all : (w k : ℕ) → bit (2 ^ w - 1) k ≡ nat_lt k w
bit_all zero k = bit_zero k ∙ sym (le-ltb k 0 (omega arith))
bit_all (suc w) zero =
    let odd : (2 ^ suc w - 1) % 2 ≡ 1 = omega (arith, pow-suc 2 w, pow_pos w) in
    bit_low (2 ^ suc w - 1) ∙ ap (λ m. nat_eq m 1) odd ∙ sym (lt-ltb 0 (suc w) (omega arith))
bit_all (suc w) (suc k) =
    let half : (2 ^ suc w - 1) / 2 ≡ 2 ^ w - 1 = omega (arith, pow-suc 2 w, pow_pos w) in
    sym (bit_half (2 ^ suc w - 1) k) ∙ ap (λ m. bit m k) half ∙ bit_all w k ∙ sym (leb-suc-suc (suc k) w)

clear_decides : (v : ℕ → Bool) (n : ℕ) → Decides (clear n v) ((k : ℕ) → k < n → v k ≡ false)
unfolding clear
clear_decides v n = Decides-below_and (λ k. not (v k)) (λ k. v k ≡ false) (λ m. clear m v) (λ k. (not-true (v k), not_from_false (v k))) refl (λ _. refl) n

-- a number of w bits is 0 where its set is empty
pub clear_zero : (w a : ℕ) → a < 2 ^ w → (a == 0) ≡ clear w (bit a)
clear_zero w a h =
    same_from_decides (a == 0) (clear w (bit a))
    (Decides-like (a == 0) (λ e. λ k l. ap (λ n. bit n k) e ∙ bit_zero k) (λ f. same_bits w a 0 h (omega arith) (λ k l. f k l ∙ sym (bit_zero k))) (Decides-eqb a 0))
    (clear_decides (bit a) w)

spread : (a b c d : Bool) → (not (a || b) && (c && d)) ≡ ((not a && c) && (not b && d))
spread true b c d = refl
spread false true true d = refl
spread false true false d = refl
spread false false c d = refl

pub clear_or : (n : ℕ) (v w : ℕ → Bool) → clear n (λ k. v k || w k) ≡ (clear n v && clear n w)
unfolding clear
clear_or zero v w = refl
clear_or (suc n) v w = ap (λ t. not (v n || w n) && t) (clear_or n v w) ∙ spread (v n) (w n) (clear n v) (clear n w)

pub clear_none : (n : ℕ) → clear n (λ k. false) ≡ true
unfolding clear
clear_none zero = refl
clear_none (suc n) = clear_none n
