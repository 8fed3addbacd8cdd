-- A buffer that texts are written into is a sink. Assumes nothing.
use Rattle.std.proofs.Common.{◌≡◌, ℕ, ◌+◌, ◌≤◌, List, [], ◌++◌, length, sym, refl, ap, ◌∙◌, append_assoc, arith, length-append, length-drop, take, drop, take-append-drop}
use Rattle.std.proofs.lemmas.List.{drop-drop, take_at, drop_at, length-take-le}
use Rattle.parts.specs.Buffers.{wrote, Put}
use Rattle.parts.specs.Sinks.{SinkLaws}
use Rattle.parts.specs.declared.writer.Writer.{Writer}

-- w became v in the same buffer by writing s
abbrev pub Wrote : Writer → List ℕ → Writer → Type 0
Wrote w s v = (v.out.ghost_name ≡ w.out.ghost_name) × Put w.out.now w.at s v.out.now v.at

wrote_none : (d : List ℕ) (at : ℕ) → wrote d at [] ≡ d
wrote_none d at = ap (λ n. take at d ++ drop n d) (omega arith) ∙ take-append-drop at d

wrote_more : (d s u : List ℕ) (at : ℕ) → at ≤ length d → wrote (wrote d at s) (at + length s) u ≡ wrote d at (s ++ u)
wrote_more d s u at h =
    let p = take at d in
    let q = drop (at + length s) d in
    let a : length p ≡ at = length-take-le at d h in
    let b : length (p ++ s) ≡ at + length s = length-append p s ∙ ap (λ n. n + length s) a in
    let w : wrote d at s ≡ (p ++ s) ++ q = sym (append_assoc p s q) in
    let front : take (at + length s) (wrote d at s) ≡ p ++ s = ap (take (at + length s)) w ∙ take_at (p ++ s) q (at + length s) b in
    let back : drop (at + length s + length u) (wrote d at s) ≡ drop (at + length (s ++ u)) d =
    sym (drop-drop (length u) (at + length s) (wrote d at s))
    ∙ ap (λ l. drop (length u) (drop (at + length s) l)) w
    ∙ ap (drop (length u)) (drop_at (p ++ s) q (at + length s) b)
    ∙ drop-drop (length u) (at + length s) d
    ∙ ap (λ n. drop n d) (omega (arith, length-append s u)) in
    ap (λ l. l ++ (u ++ drop (at + length s + length u) (wrote d at s))) front
    ∙ ap (λ l. (p ++ s) ++ (u ++ l)) back
    ∙ append_assoc p s (u ++ drop (at + length (s ++ u)) d)
    ∙ ap (λ l. p ++ l) (sym (append_assoc s u (drop (at + length (s ++ u)) d)))

put_then : (d e f a b : List ℕ) (at mid end : ℕ) → at ≤ length d → Put d at a e mid → Put e mid b f end → Put d at (a ++ b) f end
put_then d e f a b at mid end h p q = (
  omega (arith, length-append a b, p.0, q.0),
  q.1 ∙ ap (λ l. wrote l mid b) p.1 ∙ ap (λ n. wrote (wrote d at a) n b) p.0 ∙ wrote_more d a b at h,
)

wrote_length : (d s : List ℕ) (at : ℕ) → at + length s ≤ length d → length (wrote d at s) ≡ length d
wrote_length d s at h =
    let p = length-append (take at d) (s ++ drop (at + length s) d) in
    let q = length-append s (drop (at + length s) d) in
    let r = length-take-le at d (omega arith) in
    let t = length-drop (at + length s) d in
    omega arith

pub writer_laws : SinkLaws {S = Writer} (λ w s. w.at + length s ≤ length w.out.now) (λ w s v. Wrote w s v)
writer_laws = record {
  none = λ w. (refl, (omega arith, sym (wrote_none w.out.now w.at)));
  then = λ w v u a b p q. (q.0 ∙ p.0, put_then w.out.now v.out.now u.out.now a b w.at v.at u.at w.inside p.1 q.1);
  first = λ w a b h. omega (arith, length-append a b);
  second = λ w v a b h p. omega (arith, length-append a b, ap length p.1.1, wrote_length w.out.now a w.at (omega (arith, length-append a b)), p.1.0);
}
