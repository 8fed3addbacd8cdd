-- What is one part that reads back is a text that reads back. Assumes nothing.
use Rattle.std.proofs.Common.{◌≡◌, ℕ, Bool, true, false, not, ◌&&◌, ◌||◌, List, [], ◌∷◌, ◌++◌, sym, refl, ap, ◌∙◌, subst, ⊎_elim, append_assoc, arith}
use Rattle.std.proofs.lemmas.Bool.{or_left, or_right, and_right, both_ways, cond-true, cond-false, cases_Bool}
use Rattle.items.specs.Lex.{word}
use Rattle.reading.specs.Reading.{Out, ok, bad, after, then, give, item, settled, chosen, pick, opens, closes, spaces, words, ends, form_fault}
use Rattle.reading.specs.Locality.{Unbroken, Local, Alike}
use Rattle.reading.specs.Alikes.{then_local, give_local, pick_local, either_local, ends_same}
use Rattle.parts.specs.Spelling.{Spells, Onward, shut, other, Fronts, as_text, text_by, begun, non_empty, gap, entry, ahead}
use Rattle.parts.specs.Parts.{Part, Whole, strange, passes, closing, filling, own_part, inside, one_reading, one_spaced, one_spells}
use Rattle.parts.specs.PairLaws.{unbroken_more}

-- the word of the first part
pub entry_at : (names : List ℕ → Bool) (s : Bool) (w r : List ℕ) → names w ≡ true → item (w ++ r) ≡ ok (word w) r → entry names s (text_by s (32 ∷ 40 ∷ (w ++ r))) ≡ ok w r
unfolding item
entry_at names true w r h e = ap (λ o. settled o (words names) (w ++ r)) e ∙ ap (λ c. chosen c r (w ++ r)) (cond-true _ _ _ h)
entry_at names false w r h e = ap (λ o. settled o (words names) (w ++ r)) e ∙ ap (λ c. chosen c r (w ++ r)) (cond-true _ _ _ h)

no_end : (s : Bool) (r : List ℕ) → ends (item (text_by s (32 ∷ 40 ∷ r))) ≡ false
unfolding item
no_end true r = refl
no_end false r = refl

pub ends_shut : (r : List ℕ) → ends (item (41 ∷ r)) ≡ true
unfolding item
ends_shut r = refl

close_at : (r : List ℕ) → pick closes (41 ∷ r) ≡ ok tt r
unfolding item
close_at r = refl

neither : (a b : Bool) → a ≡ false → b ≡ false → (a || b) ≡ false
neither true b e f = e
neither false b e f = f

none_text : (s : Bool) → text_by s [] ≡ []
none_text true = refl
none_text false = refl

none_begun : (s : Bool) → (s || false) ≡ s
none_begun true = refl
none_begun false = refl

some_begun : (s : Bool) → true ≡ (s || true)
some_begun true = refl
some_begun false = refl

-- what stands between the brackets, then the closing bracket, then what follows
part_text : (s : Bool) (w i tail : List ℕ) → text_by s (32 ∷ 40 ∷ ((w ++ i) ++ 41 ∷ [])) ++ tail ≡ text_by s (32 ∷ 40 ∷ (w ++ (i ++ 41 ∷ tail)))
part_text true w i tail = ap (λ l. 32 ∷ 40 ∷ l) (append_assoc (w ++ i) (41 ∷ []) tail ∙ append_assoc w i (41 ∷ tail))
part_text false w i tail = ap (λ l. 40 ∷ l) (append_assoc (w ++ i) (41 ∷ []) tail ∙ append_assoc w i (41 ∷ tail))

gap_local : (s : Bool) → Local (gap s)
gap_local true = pick_local spaces form_fault refl
gap_local false = give_local tt

opening_local : (names : List ℕ → Bool) → Local (then (pick opens) (λ _. pick (words names)))
opening_local names = then_local (pick opens) (λ _. pick (words names)) (pick_local opens form_fault refl) (λ _. pick_local (words names) form_fault refl)

entry_local : (names : List ℕ → Bool) (s : Bool) → Local (entry names s)
entry_local names s = then_local (gap s) (λ _. then (pick opens) (λ _. pick (words names))) (gap_local s) (λ _. opening_local names)

strange_same : (mine : List ℕ → Bool) (x y : List ℕ) (o p : Out (List ℕ)) → Alike x y o p → strange mine o ≡ strange mine p
strange_same mine x y (ok a r) (ok b s) e = ap (λ w. not (mine w)) e.0
strange_same mine x y (ok a r) (bad g s) e = absurd e
strange_same mine x y (bad f r) (ok b s) e = absurd e
strange_same mine x y (bad f r) (bad g s) e = refl

passes_same : (mine : List ℕ → Bool) (more s : Bool) (bs x y : List ℕ) → Unbroken bs → passes mine more s (bs ++ 10 ∷ x) ≡ passes mine more s (bs ++ 10 ∷ y)
passes_same mine more s bs x y c =
    let p = ends_same bs x y c in
    let q = strange_same mine x y (ahead s (bs ++ 10 ∷ x)) (ahead s (bs ++ 10 ∷ y)) (entry_local (λ _. true) s bs x y c) in
    λ i. p i || (more && q i)

module _ {L : Type 0} (p : Part L) (h : Whole p) where
  closing_local : (x : L) → Local (closing p x)
  closing_local x = then_local (pick closes) (λ _. give (x, true)) (pick_local closes form_fault refl) (λ _. give_local (x, true))

  filling_local : (w : List ℕ) → Local (filling p w)
  filling_local w = then_local (p.body w) (closing p) (h.body_local w) closing_local

  own_local : (s : Bool) → Local (own_part p s)
  own_local s = then_local (entry p.mine s) (filling p) (entry_local p.mine s) filling_local

  one_local : (more s : Bool) → Local (one_reading p more s)
  one_local more s bs x y c =
      let l = bs ++ 10 ∷ x in
      let m = bs ++ 10 ∷ y in
      either_local (passes p.mine more s l) (passes p.mine more s m) (passes_same p.mine more s bs x y c) x y (ok (p.none, s) l) (ok (p.none, s) m) (own_part p s l) (own_part p s m)
      (refl, (bs, c, refl, refl)) (own_local s bs x y c)

  passed : (more s : Bool) (tail : List ℕ) → Onward p.mine more s tail → passes p.mine more s tail ≡ true
  passed more s tail (shut rest e) = or_left _ _ (ap (λ l. ends (item l)) e ∙ ends_shut rest)
  passed more s tail (other w rest e f g) = or_right _ _ ((λ i. e i && strange p.mine (f i)) ∙ ap not g)

  one_none : (k : L) (more s : Bool) (tail : List ℕ) → p.empty k ≡ true → Onward p.mine more s tail → one_reading p more s tail ≡ ok (k, s) tail
  one_none k more s tail e o = cond-true _ _ _ (passed more s tail o) ∙ ap (λ x. ok (x, s) tail) (h.is_none k e)

  one_some : (k : L) (more s : Bool) (tail : List ℕ) → p.empty k ≡ false → one_reading p more s (text_by s (32 ∷ 40 ∷ (p.first k ++ (p.args k ++ 41 ∷ tail)))) ≡ ok (k, true) tail
  one_some k more s tail e =
      let w = p.first k in
      let r = p.args k ++ 41 ∷ tail in
      let bs = text_by s (32 ∷ 40 ∷ (w ++ r)) in
      let own = h.own_word k e in
      let back = h.word_back k tail e in
      let front : ahead s bs ≡ ok w r = entry_at (λ _. true) s w r refl back in
      let strangers : strange p.mine (ahead s bs) ≡ false = ap (strange p.mine) front ∙ ap not own in
      let stays : passes p.mine more s bs ≡ false = neither _ _ (no_end s (w ++ r)) (and_right more _ strangers) in
      cond-false _ _ _ stays
      ∙ ap (λ o. after o (filling p)) (entry_at p.mine s w r own back)
      ∙ ap (λ o. after o (closing p)) (h.body_back k tail e)
      ∙ ap (λ o. after o (λ _. give (k, true))) (close_at tail)

  some_text : (k : L) (s : Bool) (tail : List ℕ) → p.empty k ≡ false → text_by s (one_spaced p k) ++ tail ≡ text_by s (32 ∷ 40 ∷ (p.first k ++ (p.args k ++ 41 ∷ tail)))
  some_text k s tail e = ap (λ x. text_by s x ++ tail) (cond-false _ _ _ e) ∙ part_text s (p.first k) (p.args k) tail

  one_returns : (k : L) (more s : Bool) (tail : List ℕ) → Onward p.mine more (begun (one_spells p) s k) tail → one_reading p more s (as_text (one_spells p) s k ++ tail) ≡ ok (k, begun (one_spells p) s k) tail
  one_returns k more s tail o =
      ⊎_elim
      (λ e.
      let z : one_spaced p k ≡ [] = cond-true _ _ _ e in
      let b : (s || non_empty (one_spaced p k)) ≡ s = ap (λ x. s || non_empty x) z ∙ none_begun s in
      let t : text_by s (one_spaced p k) ++ tail ≡ tail = ap (λ x. text_by s x ++ tail) z ∙ ap (λ x. x ++ tail) (none_text s) in
      ap (one_reading p more s) t ∙ one_none k more s tail e (subst (λ (u : Bool). Onward p.mine more u tail) b o) ∙ ap (λ u. ok (k, u) tail) (sym b))
      (λ e.
      let z : one_spaced p k ≡ 32 ∷ 40 ∷ (inside p k ++ 41 ∷ []) = cond-false _ _ _ e in
      let b : true ≡ (s || non_empty (one_spaced p k)) = some_begun s ∙ ap (λ x. s || non_empty x) (sym z) in
      ap (one_reading p more s) (some_text k s tail e) ∙ one_some k more s tail e ∙ ap (λ u. ok (k, u) tail) b)
      (cases_Bool (p.empty k))

  one_fronts : (k : L) (s : Bool) (tail : List ℕ) → non_empty (one_spaced p k) ≡ true → Fronts p.mine s (as_text (one_spells p) s k ++ tail)
  one_fronts k s tail f =
      ⊎_elim
      (λ e. let z : one_spaced p k ≡ [] = cond-true _ _ _ e in absurd (both_ways (non_empty (one_spaced p k)) (ap non_empty z) f))
      (λ e. (p.first k, p.args k ++ 41 ∷ tail, ap (ahead s) (some_text k s tail e) ∙ entry_at (λ _. true) s (p.first k) (p.args k ++ 41 ∷ tail) refl (h.word_back k tail e), h.own_word k e))
      (cases_Bool (p.empty k))

  one_unbroken : (k : L) → Unbroken (one_spaced p k)
  one_unbroken k =
      ⊎_elim
      (λ e. let z : one_spaced p k ≡ [] = cond-true _ _ _ e in subst (λ (l : List ℕ). Unbroken l) (sym z) tt)
      (λ e.
      let z : one_spaced p k ≡ 32 ∷ 40 ∷ (inside p k ++ 41 ∷ []) = cond-false _ _ _ e in
      subst (λ (l : List ℕ). Unbroken l) (sym z) ((λ q. omega arith), ((λ q. omega arith), unbroken_more (inside p k) (41 ∷ []) (unbroken_more (p.first k) (p.args k) (h.unbroken_word k) (h.unbroken_args k)) ((λ q. omega arith), tt))))
      (cases_Bool (p.empty k))

  pub one_laws : Spells (one_spells p)
  one_laws = record { returns = one_returns; fronts = one_fronts; unbroken = one_unbroken; local = one_local }
