-- One turn of the rising claims. Assumes nothing.
use Rattle.std.specs.Prelude.{◌≡◌, ℕ, zero, suc, ◌+◌, ◌*◌, ◌%◌, ◌^◌, ◌<◌, ◌≤◌, true, false, List}
use Rattle.std.proofs.Common.{sym, ap, subst, ◌∙◌, arith, add-one, one-mul, mod-eq_of_lt}
use Rattle.std.proofs.Math.Nat.{pow-le-pow_right, two-pow-succ}
use Rattle.std.proofs.Math.Pow.{pow-lt}
use Rattle.std.proofs.lemmas.Bool.{cond-true, cond-false}
use Rattle.reading.specs.Reading.{ok, bad, Flaw, after, then, item, ends, pick, spaces, numbers}
use Rattle.house_text.specs.ClaimsText.{risen, rising}

pub rising_done : (f low set : ℕ) (bs : List ℕ) → 1 ≤ f → ends (item bs) ≡ true → rising f low set bs ≡ ok set bs
unfolding rising
rising_done zero low set bs h e = absurd (omega arith)
rising_done (suc f) low set bs h e = cond-true _ _ _ e

pub rising_more : (f low set n : ℕ) (bs cs ds : List ℕ) → 1 ≤ f → ends (item bs) ≡ false → pick spaces bs ≡ ok tt cs → pick (numbers (risen low)) cs ≡ ok n ds
    → (g : ℕ) × (g + 1 ≡ f) × (rising f low set bs ≡ rising g (n + 1) (set + 2 ^ n) ds)
unfolding rising
rising_more zero low set n bs cs ds h e p q = absurd (omega arith)
rising_more (suc f) low set n bs cs ds h e p q =
    (f, omega arith, cond-false _ _ _ e ∙ ap (λ o. after o (λ _. then (pick (numbers (risen low))) (λ n. rising f (n + 1) (set + 2 ^ n)))) p ∙ ap (λ o. after o (λ n. rising f (n + 1) (set + 2 ^ n))) q)

pub rising_bad : (f low set : ℕ) (bs rest : List ℕ) (w : Flaw) → 1 ≤ f → ends (item bs) ≡ false → pick spaces bs ≡ bad w rest → rising f low set bs ≡ bad w rest
unfolding rising
rising_bad zero low set bs rest w h e p = absurd (omega arith)
rising_bad (suc f) low set bs rest w h e p =
    cond-false _ _ _ e ∙ ap (λ o. after o (λ _. then (pick (numbers (risen low))) (λ n. rising f (n + 1) (set + 2 ^ n)))) p

pub rising_worse : (f low set : ℕ) (bs cs rest : List ℕ) (w : Flaw) → 1 ≤ f → ends (item bs) ≡ false → pick spaces bs ≡ ok tt cs → pick (numbers (risen low)) cs ≡ bad w rest → rising f low set bs ≡ bad w rest
unfolding rising
rising_worse zero low set bs cs rest w h e p q = absurd (omega arith)
rising_worse (suc f) low set bs cs rest w h e p q =
    cond-false _ _ _ e ∙ ap (λ o. after o (λ _. then (pick (numbers (risen low))) (λ n. rising f (n + 1) (set + 2 ^ n)))) p ∙ ap (λ o. after o (λ n. rising f (n + 1) (set + 2 ^ n))) q

pub shifted_bit : (n : ℕ) → n ≤ 63 → 2 ^ n ≡ (1 * 2 ^ n) % 18446744073709551616
shifted_bit n h =
    let l : 1 * 2 ^ n < 18446744073709551616 = subst (λ (v : ℕ). v < 2 ^ 64) (sym (one-mul (2 ^ n))) (pow-lt {i = n} {j = 64} (omega arith)) in
    sym (mod-eq_of_lt l ∙ one-mul (2 ^ n))

pub room : (set low n : ℕ) → set < 2 ^ low → low ≤ n → set + 2 ^ n < 2 ^ (n + 1)
room set low n a b =
    let m : 2 ^ low ≤ 2 ^ n = pow-le-pow_right {n = 2} (omega arith) b in
    let d : 2 ^ (n + 1) ≡ 2 ^ n + 2 ^ n = ap (λ k. 2 ^ k) (add-one n) ∙ two-pow-succ n in
    omega arith
