-- What the next item of a text is. Assumes nothing.
use Rattle.std.proofs.Common.{◌≡◌, ℕ, ◌+◌, ◌<◌, ◌≤◌, true, cond, eqb, leb, List, [], ◌∷◌, length, get_or, drop, sym, refl, ap, ◌∙◌, subst, zero-le, arith, length-drop}
use Rattle.std.proofs.lemmas.List.{drop_all, drop-drop}
use Rattle.std.proofs.lemmas.Bool.{cond_both, and_parts, leb-true, eqb-true}
use Rattle.calendar.specs.Text.{is_date}
use Rattle.items.specs.Lex.{Piece, piece, piece_by, piece_of_run, run, in_run, is_word, is_number, open_bracket, close_bracket, space, newline, word, number, date, no_item}
use Rattle.items.specs.Seen.{seen}
use Rattle.items.specs.declared.item.Item.{Item}
use Rattle.items.specs.declared.item.Item.TheVariants.{Open, Close, Space, Newline, Word, Number, Date}
use Rattle.reading.specs.Reading.{ok, bad, item, item_by, size, end_fault, no_item_fault}

pub item_end : (t : List ℕ) (i : ℕ) → length t ≤ i → item (drop i t) ≡ bad end_fault (drop i t)
unfolding item
item_end t i h = let e = drop_all i t h in ap item e ∙ ap (bad end_fault) (sym e)

pub item_some : (bs : List ℕ) → 0 < length bs → item bs ≡ item_by (piece bs) bs
unfolding item
item_some [] h = absurd (omega arith)
item_some (b ∷ bs) h = refl

item_seen : (i : Item) (bs : List ℕ) → item_by (seen i) bs ≡ ok (seen i) (drop (size (seen i)) bs)
item_seen (Open i) bs = refl
item_seen (Close i) bs = refl
item_seen (Space i) bs = refl
item_seen (Newline i) bs = refl
item_seen (Word i r) bs = refl
item_seen (Number i r) bs = refl
item_seen (Date i r) bs = refl

pub run_fits : (bs : List ℕ) → length (run bs) ≤ length bs
unfolding run
run_fits [] = omega arith
run_fits (b ∷ bs) = cond_both (in_run b) (b ∷ run bs) [] (λ l. length l ≤ length (b ∷ bs)) (λ _. omega (arith, run_fits bs)) (λ _. omega arith)

-- what holds of each item that a byte or a run can be holds of the item
each : (P : Piece → Type 0) (b : ℕ) (r : List ℕ) → P open_bracket → P close_bracket → P space → P newline
    → (is_word r ≡ true → P (word r)) → (is_number r ≡ true → P (number r)) → (is_date r ≡ true → P (date r)) → P no_item → P (piece_by b r)
each P b r o c s n w k d z =
    let by_run : P (piece_of_run r) =
    cond_both (is_word r) (word r) (cond (is_number r) (number r) (cond (is_date r) (date r) no_item)) P w
    (λ _. cond_both (is_number r) (number r) (cond (is_date r) (date r) no_item) P k (λ _. cond_both (is_date r) (date r) no_item P d (λ _. z))) in
    let lines : P (cond (eqb b 10) newline (piece_of_run r)) = cond_both (eqb b 10) newline (piece_of_run r) P (λ _. n) (λ _. by_run) in
    let gaps : P (cond (eqb b 32) space (cond (eqb b 10) newline (piece_of_run r))) = cond_both (eqb b 32) space _ P (λ _. s) (λ _. lines) in
    let shuts : P (cond (eqb b 41) close_bracket (cond (eqb b 32) space (cond (eqb b 10) newline (piece_of_run r)))) = cond_both (eqb b 41) close_bracket _ P (λ _. c) (λ _. gaps) in
    cond_both (eqb b 40) open_bracket _ P (λ _. o) (λ _. shuts)

pub size_fits : (b n : ℕ) (r : List ℕ) → 1 ≤ n → length r ≤ n → size (piece_by b r) ≤ n
size_fits b n r h l = each (λ p. size p ≤ n) b r h h h h (λ _. l) (λ _. l) (λ _. l) zero-le

-- an item has a byte at least
some_byte : (b : ℕ) (r : List ℕ) → (piece_by b r ≡ no_item → ⊥) → 1 ≤ size (piece_by b r)
some_byte b r =
    each (λ p. (p ≡ no_item → ⊥) → 1 ≤ size p) b r (λ _. omega arith) (λ _. omega arith) (λ _. omega arith) (λ _. omega arith)
    (λ t _. leb-true 1 (length r) (and_parts (leb 1 (length r)) _ t).0)
    (λ t _. leb-true 1 (length r) (and_parts (leb 1 (length r)) _ t).0)
    (λ t _. let l = eqb-true (length r) 10 (and_parts (eqb (length r) 10) _ t).0 in omega arith)
    (λ n. absurd (n refl))

not_none : (i : Item) → seen i ≡ no_item → ⊥
not_none (Open i) h = let z : ◌≡◌ {A = ℕ} 0 1 = cc in omega arith
not_none (Close i) h = let z : ◌≡◌ {A = ℕ} 0 1 = cc in omega arith
not_none (Space i) h = let z : ◌≡◌ {A = ℕ} 0 1 = cc in omega arith
not_none (Newline i) h = let z : ◌≡◌ {A = ℕ} 0 1 = cc in omega arith
not_none (Word i r) h = let z : ◌≡◌ {A = ℕ} 0 1 = cc in omega arith
not_none (Number i r) h = let z : ◌≡◌ {A = ℕ} 0 1 = cc in omega arith
not_none (Date i r) h = let z : ◌≡◌ {A = ℕ} 0 1 = cc in omega arith

-- the item i of the code stands at the place at
pub item_at_lem : (t : List ℕ) (at : ℕ) (i : Item) → at < length t → seen i ≡ piece (drop at t)
    → (at + 1 ≤ at + size (seen i)) × (at + size (seen i) ≤ length t) × (item (drop at t) ≡ ok (seen i) (drop (at + size (seen i)) t))
item_at_lem t at i h e =
    let bs = drop at t in
    let b = get_or bs 0 0 in
    let some : 0 < length bs = rw length-drop (omega arith) in
    let fits : size (seen i) ≤ length bs = subst (λ p. size p ≤ length bs) (sym e) (size_fits b (length bs) (run bs) some (run_fits bs)) in
    let long : 1 ≤ size (seen i) = subst (λ p. 1 ≤ size p) (sym e) (some_byte b (run bs) (λ z. not_none i (e ∙ z))) in (
      omega arith,
      omega (arith, length-drop at t),
      item_some bs some ∙ ap (λ p. item_by p bs) (sym e) ∙ item_seen i bs ∙ ap (ok (seen i)) (drop-drop (size (seen i)) at t),
    )

pub no_item_at : (t : List ℕ) (at : ℕ) → at < length t → piece (drop at t) ≡ no_item → item (drop at t) ≡ bad no_item_fault (drop at t)
no_item_at t at h e =
    let some : 0 < length (drop at t) = rw length-drop (omega arith) in
    item_some (drop at t) some ∙ ap (λ p. item_by p (drop at t)) e

-- a number is one
Right : Piece → Type 0
Right open_bracket = Unit {0}
Right close_bracket = Unit {0}
Right space = Unit {0}
Right newline = Unit {0}
Right (word r) = Unit {0}
Right (number r) = is_number r ≡ true
Right (date r) = Unit {0}
Right no_item = Unit {0}

right : (bs : List ℕ) → Right (piece bs)
unfolding Right
right bs = each Right (get_or bs 0 0) (run bs) tt tt tt tt (λ _. tt) (λ t. t) (λ _. tt) tt

item_is : (p q : Piece) (bs rest : List ℕ) → item_by p bs ≡ ok q rest → p ≡ q
item_is open_bracket q bs rest e = cc
item_is close_bracket q bs rest e = cc
item_is space q bs rest e = cc
item_is newline q bs rest e = cc
item_is (word r) q bs rest e = cc
item_is (number r) q bs rest e = cc
item_is (date r) q bs rest e = cc
item_is no_item q bs rest e = cc

pub number_item : (bs rest q : List ℕ) → item bs ≡ ok (number q) rest → is_number q ≡ true
unfolding item Right
number_item [] rest q e = let z : ◌≡◌ {A = ℕ} 0 1 = cc in absurd (omega arith)
number_item (b ∷ bs) rest q e = subst Right (item_is (piece (b ∷ bs)) (number q) (b ∷ bs) rest e) (right (b ∷ bs))
