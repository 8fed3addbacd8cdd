-- The pair of two written kinds that share no word is one. Assumes nothing.
use Rattle.std.proofs.Common.{◌≡◌, ℕ, Bool, true, false, ◌||◌, List, [], ◌∷◌, ◌++◌, sym, refl, ap, ◌∙◌, subst, append_assoc}
use Rattle.std.proofs.lemmas.Bool.{or_left, or_right, both_ways}
use Rattle.reading.specs.Reading.{ok, after, give}
use Rattle.reading.specs.Locality.{Unbroken}
use Rattle.reading.specs.Alikes.{then_local, give_local}
use Rattle.kinds.specs.declared.pair.Pair.{Pair}
use Rattle.parts.specs.Spelling.{Spelling, Spells, Onward, shut, other, Fronts, Apart, Again, as_text, text_by, begun, non_empty, ahead}
use Rattle.parts.specs.Pairing.{pair_spells, pair_names, second_reading, both}

pub text_more : (s : Bool) (x y tail : List ℕ) → text_by s (x ++ y) ++ tail ≡ text_by s x ++ (text_by (s || non_empty x) y ++ tail)
text_more true x y tail = append_assoc x y tail
text_more false [] y tail = refl
text_more false (c ∷ cs) y tail = append_assoc cs y tail

pub begun_more : (s : Bool) (x y : List ℕ) → (s || non_empty (x ++ y)) ≡ ((s || non_empty x) || non_empty y)
begun_more true x y = refl
begun_more false [] y = refl
begun_more false (c ∷ cs) y = refl

or_false : (a b : Bool) → (a || b) ≡ false → (a ≡ false) × (b ≡ false)
or_false true b e = absurd (both_ways true e refl)
or_false false b e = (refl, e)

pub unbroken_more : (x y : List ℕ) → Unbroken x → Unbroken y → Unbroken (x ++ y)
unbroken_more [] y c d = d
unbroken_more (b ∷ x) y c d = (c.0, unbroken_more x y c.1 d)

-- what follows the pair may follow its second
onward_second : (m n : List ℕ → Bool) (more s : Bool) (tail : List ℕ) → Onward (pair_names m n) more s tail → Onward n more s tail
onward_second m n more s tail (shut rest e) = shut rest e
onward_second m n more s tail (other w rest e f g) = other w rest e f (or_false (m w) (n w) g).1

-- and its first, if the second has no part
onward_first : (m n : List ℕ → Bool) (more s : Bool) (tail : List ℕ) → Onward (pair_names m n) more s tail → Onward m true s tail
onward_first m n more s tail (shut rest e) = shut rest e
onward_first m n more s tail (other w rest e f g) = other w rest refl f (or_false (m w) (n w) g).0

-- what the second has may follow the first
onward_text : (m n : List ℕ → Bool) (more s : Bool) (y tail : List ℕ) → Apart m n → (non_empty y ≡ true → Fronts n s (text_by s y ++ tail)) → Onward (pair_names m n) more (s || non_empty y) tail → Onward m true s (text_by s y ++ tail)
onward_text m n more true [] tail d f o = onward_first m n more true tail o
onward_text m n more false [] tail d f o = onward_first m n more false tail o
onward_text m n more s (c ∷ cs) tail d f o = let g = f refl in other g.0 g.1 refl g.2 (d g.0 g.3)

fronts_text : (m n : List ℕ → Bool) (s : Bool) (x y tail : List ℕ) → (non_empty x ≡ true → (t : List ℕ) → Fronts m s (text_by s x ++ t)) → (non_empty y ≡ true → Fronts n s (text_by s y ++ tail)) → non_empty (x ++ y) ≡ true → Fronts (pair_names m n) s (text_by s (x ++ y) ++ tail)
fronts_text m n s [] y tail f g e = let h = g e in (h.0, h.1, h.2, or_right (m h.0) (n h.0) h.3)
fronts_text m n s (c ∷ cs) y tail f g e =
    let h = f refl (text_by (s || true) y ++ tail) in
    (h.0, h.1, ap (ahead s) (text_more s (c ∷ cs) y tail) ∙ h.2, or_left (m h.0) (n h.0) h.3)

module _ {A B : Type 0} {a : Spelling A} {b : Spelling B} (ha : Spells a) (hb : Spells b) (d : Apart a.names b.names) where
  pair_returns : (p : Pair A B) (more s : Bool) (tail : List ℕ) → Onward (pair_spells a b).names more (begun (pair_spells a b) s p) tail
      → (pair_spells a b).reading more s (as_text (pair_spells a b) s p ++ tail) ≡ ok (p, begun (pair_spells a b) s p) tail
  pair_returns p more s tail o =
      let x = a.spaced p.first in
      let y = b.spaced p.second in
      let t = s || non_empty x in
      let e : (s || non_empty (x ++ y)) ≡ (t || non_empty y) = begun_more s x y in
      let o2 : Onward (pair_names a.names b.names) more (t || non_empty y) tail = subst (λ (u : Bool). Onward (pair_names a.names b.names) more u tail) e o in
      let f = ha.returns p.first true s (text_by t y ++ tail) (onward_text a.names b.names more t y tail d (hb.fronts p.second t tail) o2) in
      let g = hb.returns p.second more t tail (onward_second a.names b.names more (t || non_empty y) tail o2) in
      ap ((pair_spells a b).reading more s) (text_more s x y tail)
      ∙ ap (λ o. after o (second_reading a b more)) f
      ∙ ap (λ o. after o (λ z. give (both p.first z.0, z.1))) g
      ∙ ap (λ u. ok (p, u) tail) (sym e)

  pub pair_laws : Spells (pair_spells a b)
  pair_laws = record {
    returns = pair_returns;
    fronts = λ p s tail. fronts_text a.names b.names s (a.spaced p.first) (b.spaced p.second) tail (λ e t. ha.fronts p.first s t e) (hb.fronts p.second s tail);
    unbroken = λ p. unbroken_more (a.spaced p.first) (b.spaced p.second) (ha.unbroken p.first) (hb.unbroken p.second);
    local = λ more s. then_local (a.reading true s) (second_reading a b more) (ha.local true s) (λ x. then_local (b.reading more x.1) (λ y. give (both x.0 y.0, y.1)) (hb.local more x.1) (λ y. give_local (both x.0 y.0, y.1)));
  }

pub again : {L : Type 0} {sp : Spelling L} → Spells sp → Again sp
again h k rest = h.returns k false false (41 ∷ rest) (shut rest refl)
