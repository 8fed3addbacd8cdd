-- A part put into a sink, piece by piece. Assumes nothing.
use Rattle.std.proofs.Common.{◌≡◌, ℕ, Bool, true, false, ◌||◌, List, [], ◌∷◌, ◌++◌, sym, refl, ap, ◌∙◌, subst}
use Rattle.std.proofs.lemmas.Bool.{cond-true, cond-false}
use Rattle.parts.specs.Spelling.{text_by, non_empty, as_text, begun}
use Rattle.parts.specs.Parts.{Part, inside, one_spells}
use Rattle.parts.specs.Sinks.{SinkLaws}

opened : (s : Bool) (x : List ℕ) → text_by s (32 ∷ 40 ∷ (x ++ 41 ∷ [])) ≡ text_by s (32 ∷ 40 ∷ []) ++ (x ++ 41 ∷ [])
opened true x = refl
opened false x = refl

started_part : (s : Bool) → true ≡ (s || true)
started_part true = refl
started_part false = refl

not_started : (s : Bool) → s ≡ (s || false)
not_started true = refl
not_started false = refl

none_text : (s : Bool) → [] ≡ text_by s []
none_text true = refl
none_text false = refl

module _ {V : Type 0} (p : Part V) (v : V) (s : Bool) where
  pub no_text : p.empty v ≡ true → [] ≡ as_text (one_spells p) s v
  no_text e = none_text s ∙ ap (text_by s) (sym (cond-true _ _ _ e))

  pub no_start : p.empty v ≡ true → s ≡ begun (one_spells p) s v
  no_start e = not_started s ∙ ap (λ x. s || non_empty x) (sym (cond-true _ _ _ e))

  pub a_start : p.empty v ≡ false → true ≡ begun (one_spells p) s v
  a_start e = started_part s ∙ ap (λ x. s || non_empty x) (sym (cond-false (p.empty v) _ (32 ∷ 40 ∷ (inside p v ++ 41 ∷ [])) e))

  a_text : p.empty v ≡ false → as_text (one_spells p) s v ≡ text_by s (32 ∷ 40 ∷ []) ++ (inside p v ++ 41 ∷ [])
  a_text e = ap (text_by s) (cond-false _ _ _ e) ∙ opened s (inside p v)

  module _ {S : Type 0} {fits : S → List ℕ → Type 0} {took : S → List ℕ → S → Type 0} (h : SinkLaws fits took) (w : S) where
    pub put_no_part : p.empty v ≡ true → took w (as_text (one_spells p) s v) w
    put_no_part e = subst (λ (l : List ℕ). took w l w) (no_text e) (h.none w)

    module _ (full : p.empty v ≡ false) (room : fits w (as_text (one_spells p) s v)) where
      fits_all : fits w (text_by s (32 ∷ 40 ∷ []) ++ (inside p v ++ 41 ∷ []))
      fits_all = subst (fits w) (a_text full) room

      pub fits_open : fits w (text_by s (32 ∷ 40 ∷ []))
      fits_open = h.first w _ (inside p v ++ 41 ∷ []) fits_all

      module _ (a : S) (opens : took w (text_by s (32 ∷ 40 ∷ [])) a) where
        fits_rest : fits a (inside p v ++ 41 ∷ [])
        fits_rest = h.second w a _ _ fits_all opens

        pub fits_inside : fits a (inside p v)
        fits_inside = h.first a _ (41 ∷ []) fits_rest

        module _ (b : S) (fills : took a (inside p v) b) where
          pub fits_close : fits b (41 ∷ [])
          fits_close = h.second a b _ _ fits_rest fills

          pub put_whole : (c : S) → took b (41 ∷ []) c → took w (as_text (one_spells p) s v) c
          put_whole c closes = subst (λ (l : List ℕ). took w l c) (sym (a_text full)) (h.then w a c _ _ opens (h.then a b c _ _ fills closes))
