-- An element of a list that begins with another. Assumes nothing.
use Rattle.std.proofs.Common.{◌≡◌, ℕ, zero, suc, ◌≤◌, Bool, true, false, cond, leb, ◌⊎◌, ◌↔◌, List, [], ◌∷◌, filter, refl, ap, inl, inr, ⊎_elim, le_refl, not-suc-le-zero, arith, leb-false, leb-true}
use borrow.Author.Tests.{both_ways}
use Rattle.std.specs.List.{ContainsAt as Has}

pub has_none : {X : Type 0} (x : X) → Has [] x → ⊥
has_none x h = not-suc-le-zero h.1

pub has_first : {X : Type 0} (xs : List X) (x : X) → Has (x ∷ xs) x
has_first xs x = (0, omega arith, λ d. refl)

pub has_later : {X : Type 0} (xs : List X) (y x : X) → Has xs x → Has (y ∷ xs) x
has_later xs y x h = (suc h.0, omega arith, λ d. h.2 d)

pub has_cases : {X : Type 0} (xs : List X) (y x : X) → Has (y ∷ xs) x → (y ≡ x) ⊎ Has xs x
has_cases xs y x (zero, l, e) = inl (e y)
has_cases xs y x (suc n, l, e) = inr (n, omega arith, e)

-- an element of what a test keeps is an element of the list that passes
pub has_kept : {X : Type 0} (test : X → Bool) (xs : List X) (x : X) → Has (filter test xs) x ↔ (Has xs x × (test x ≡ true))
has_kept test [] x = (λ h. absurd (has_none x h), λ h. absurd (has_none x h.0))
has_kept test (y ∷ xs) x = go (test y) refl (has_kept test xs x)
  where
    go : (b : Bool) → test y ≡ b → (Has (filter test xs) x ↔ (Has xs x × (test x ≡ true))) →
        Has (cond b (y ∷ filter test xs) (filter test xs)) x ↔ (Has (y ∷ xs) x × (test x ≡ true))
    go true e rest = (
      λ h. ⊎_elim (λ q. (rw (← q) (has_first xs y), rw (← q) e)) (λ m. let r = rest.0 m in (has_later xs y x r.0, r.1)) (has_cases _ y x h),
      λ h. ⊎_elim (λ q. rw (← q) (has_first _ y)) (λ m. has_later _ y x (rest.1 (m, h.1))) (has_cases xs y x h.0),
    )
    go false e rest = (
      λ h. let r = rest.0 h in (has_later xs y x r.0, r.1),
      λ h. ⊎_elim (λ q. absurd (both_ways (test y) e (rw q h.1))) (λ m. rest.1 (m, h.1)) (has_cases xs y x h.0),
    )

-- no element passes, or one that passes has the lowest key
pub lowest_of : {X : Type 0} (key : X → ℕ) (test : X → Bool) (xs : List X) →
    ((x : X) → Has xs x → test x ≡ false) ⊎ ((x : X) × Has xs x × (test x ≡ true) × ((y : X) → Has xs y → test y ≡ true → key x ≤ key y))
lowest_of key test [] = inl (λ x h. absurd (has_none x h))
lowest_of {X} key test (y ∷ xs) = go (test y) refl (lowest_of key test xs)
  where
    closer : (b : Bool) → test y ≡ true → (x : X) → Has xs x → test x ≡ true → ((z : X) → Has xs z → test z ≡ true → key x ≤ key z) → leb (key y) (key x) ≡ b →
        (w : X) × Has (y ∷ xs) w × (test w ≡ true) × ((z : X) → Has (y ∷ xs) z → test z ≡ true → key w ≤ key z)
    closer true e x m t low b =
        let le = leb-true _ _ b in
        (y, has_first xs y, e, λ z h f. ⊎_elim (λ q. rw q (le_refl _)) (λ i. let j = low z i f in omega arith) (has_cases xs y z h))
    closer false e x m t low b =
        let lt = leb-false _ _ b in
        (x, has_later xs y x m, t, λ z h f. ⊎_elim (λ q. let s = ap key q in omega arith) (λ i. low z i f) (has_cases xs y z h))

    go : (b : Bool) → test y ≡ b → ((x : X) → Has xs x → test x ≡ false) ⊎ ((x : X) × Has xs x × (test x ≡ true) × ((z : X) → Has xs z → test z ≡ true → key x ≤ key z)) →
        ((x : X) → Has (y ∷ xs) x → test x ≡ false) ⊎ ((x : X) × Has (y ∷ xs) x × (test x ≡ true) × ((z : X) → Has (y ∷ xs) z → test z ≡ true → key x ≤ key z))
    go false e (inl all) = inl (λ x h. ⊎_elim (λ q. rw (← q) e) (λ i. all x i) (has_cases xs y x h))
    go true e (inl all) = inr (y, has_first xs y, e, λ z h f. ⊎_elim (λ q. rw q (le_refl _)) (λ i. absurd (both_ways (test z) (all z i) f)) (has_cases xs y z h))
    go false e (inr r) = inr (r.0, has_later xs y _ r.1, r.2, λ z h f. ⊎_elim (λ q. absurd (both_ways (test y) e (rw q f))) (λ i. r.3 z i f) (has_cases xs y z h))
    go true e (inr r) = inr (closer (leb (key y) (key r.0)) e r.0 r.1 r.2 r.3 refl)
