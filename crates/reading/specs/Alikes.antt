-- The readings are local, one combinator after the other. Assumes nothing.
use Rattle.std.proofs.Common.{◌≡◌, ℕ, zero, suc, ◌≤◌, Bool, true, false, cond, List, [], ◌∷◌, ◌++◌, length, drop, sym, refl, ap, ◌∙◌, subst, arith}
use Rattle.std.proofs.lemmas.Bool.{both_ways}
use Rattle.std.proofs.lemmas.List.{drop-append-le}
use Rattle.items.specs.Lex.{Piece, piece_by, run, in_run, newline, open_bracket, close_bracket, space, word, number, date, no_item}
use Rattle.reading.specs.Reading.{Out, ok, bad, Flaw, Read, after, then, give, item, item_by, size, Choice, take_it, refuse, chosen, settled, pick, ends}
use Rattle.reading.specs.Items.{size_fits, run_fits}
use Rattle.reading.specs.Locality.{Unbroken, Alike, Local}

unbroken_drop : (n : ℕ) (bs : List ℕ) → Unbroken bs → Unbroken (drop n bs)
unbroken_drop zero bs c = c
unbroken_drop (suc n) [] c = tt
unbroken_drop (suc n) (b ∷ bs) c = unbroken_drop n bs c.1

bound : {X Y : Type 0} (x y : List ℕ) (k : X → Read Y) → ((a : X) → Local (k a)) → (o p : Out X) → Alike x y o p → Alike x y (after o k) (after p k)
bound x y k h (ok a r) (ok b s) e =
    let v = e.1 in
    subst (λ (c : _). Alike x y (k a r) (k c s)) e.0
    (subst (λ (r : List ℕ). Alike x y (k a r) (k a s)) (sym v.2)
    (subst (λ (s : List ℕ). Alike x y (k a (v.0 ++ 10 ∷ x)) (k a s)) (sym v.3) (h a v.0 x y v.1)))
bound x y k h (ok a r) (bad g s) e = absurd e
bound x y k h (bad f r) (ok b s) e = absurd e
bound x y k h (bad f r) (bad g s) e = e

pub then_local : {X Y : Type 0} (r : Read X) (k : X → Read Y) → Local r → ((a : X) → Local (k a)) → Local (then r k)
then_local r k h g bs x y c = bound x y k g (r (bs ++ 10 ∷ x)) (r (bs ++ 10 ∷ y)) (h bs x y c)

pub give_local : {X : Type 0} (a : X) → Local (give a)
give_local a bs x y c = (refl, (bs, c, refl, refl))

run_same : (bs x : List ℕ) → Unbroken bs → run (bs ++ 10 ∷ x) ≡ run bs
unfolding run
run_same [] x c = refl
run_same (b ∷ bs) x c = ap (λ l. cond (in_run b) (b ∷ l) []) (run_same bs x c.1)

chosen_local : {X : Type 0} (c : Choice X) (n : ℕ) (bs x y : List ℕ) → Unbroken bs → n ≤ length bs
    → Alike x y (chosen c (drop n (bs ++ 10 ∷ x)) (bs ++ 10 ∷ x)) (chosen c (drop n (bs ++ 10 ∷ y)) (bs ++ 10 ∷ y))
chosen_local (take_it a) n bs x y c h = (refl, (drop n bs, unbroken_drop n bs c, drop-append-le n bs (10 ∷ x) h, drop-append-le n bs (10 ∷ y) h))
chosen_local (refuse w) n bs x y c h = (refl, (bs, c, refl, refl))

by_piece : {X : Type 0} (f : Piece → Choice X) (p : Piece) (bs x y : List ℕ) → Unbroken bs → size p ≤ length bs
    → Alike x y (settled (item_by p (bs ++ 10 ∷ x)) f (bs ++ 10 ∷ x)) (settled (item_by p (bs ++ 10 ∷ y)) f (bs ++ 10 ∷ y))
by_piece f open_bracket bs x y c h = chosen_local (f open_bracket) 1 bs x y c h
by_piece f close_bracket bs x y c h = chosen_local (f close_bracket) 1 bs x y c h
by_piece f space bs x y c h = chosen_local (f space) 1 bs x y c h
by_piece f newline bs x y c h = chosen_local (f newline) 1 bs x y c h
by_piece f (word r) bs x y c h = chosen_local (f (word r)) (length r) bs x y c h
by_piece f (number r) bs x y c h = chosen_local (f (number r)) (length r) bs x y c h
by_piece f (date r) bs x y c h = chosen_local (f (date r)) (length r) bs x y c h
by_piece f no_item bs x y c h = (refl, (bs, c, refl, refl))

-- the item at the front of a line is the same whatever follows the line
item_same : (b : ℕ) (bs x : List ℕ) → Unbroken (b ∷ bs) → item ((b ∷ bs) ++ 10 ∷ x) ≡ item_by (piece_by b (run (b ∷ bs))) ((b ∷ bs) ++ 10 ∷ x)
unfolding item
item_same b bs x c = ap (λ r. item_by (piece_by b r) ((b ∷ bs) ++ 10 ∷ x)) (run_same (b ∷ bs) x c)

front : {X : Type 0} (f : Piece → Choice X) (w : Flaw) → f newline ≡ refuse w → (x y : List ℕ) → Alike x y (pick f (10 ∷ x)) (pick f (10 ∷ y))
unfolding item
front f w e x y = subst (λ (c : Choice _). Alike x y (chosen c x (10 ∷ x)) (chosen c y (10 ∷ y))) (sym e) (refl, ([], tt, refl, refl))

pub pick_local : {X : Type 0} (f : Piece → Choice X) (w : Flaw) → f newline ≡ refuse w → Local (pick f)
pick_local f w e [] x y c = front f w e x y
pick_local f w e (b ∷ bs) x y c =
    let p = piece_by b (run (b ∷ bs)) in
    let fits : size p ≤ length (b ∷ bs) = size_fits b (length (b ∷ bs)) (run (b ∷ bs)) (omega arith) (run_fits (b ∷ bs)) in
    let L = (b ∷ bs) ++ 10 ∷ x in
    let M = (b ∷ bs) ++ 10 ∷ y in
    subst (λ (o : Out Piece). Alike x y (settled o f L) (settled (item M) f M)) (sym (item_same b bs x c))
    (subst (λ (o : Out Piece). Alike x y (settled (item_by p L) f L) (settled o f M)) (sym (item_same b bs y c)) (by_piece f p (b ∷ bs) x y c fits))

ends_by : (p : Piece) (l m : List ℕ) → ends (item_by p l) ≡ ends (item_by p m)
ends_by open_bracket l m = refl
ends_by close_bracket l m = refl
ends_by space l m = refl
ends_by newline l m = refl
ends_by (word r) l m = refl
ends_by (number r) l m = refl
ends_by (date r) l m = refl
ends_by no_item l m = refl

ends_none : (x y : List ℕ) → ends (item (10 ∷ x)) ≡ ends (item (10 ∷ y))
unfolding item
ends_none x y = refl

pub ends_same : (bs x y : List ℕ) → Unbroken bs → ends (item (bs ++ 10 ∷ x)) ≡ ends (item (bs ++ 10 ∷ y))
ends_same [] x y c = ends_none x y
ends_same (b ∷ bs) x y c = ap ends (item_same b bs x c) ∙ ends_by (piece_by b (run (b ∷ bs))) _ _ ∙ ap ends (sym (item_same b bs y c))

pub either_local : {X : Type 0} (t u : Bool) → t ≡ u → (x y : List ℕ) (a b c d : Out X) → Alike x y a b → Alike x y c d → Alike x y (cond t a c) (cond u b d)
either_local true true e x y a b c d p q = p
either_local true false e x y a b c d p q = absurd (both_ways true (e) refl)
either_local false true e x y a b c d p q = absurd (both_ways true (sym e) refl)
either_local false false e x y a b c d p q = q
