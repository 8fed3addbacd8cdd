-- The pair of two kinds keeps the laws. Assumes nothing.
use Rattle.std.specs.Prelude.{◌≡◌, refl, Bool, true, false, ◌&&◌}
use Rattle.std.proofs.Common.{ap}
use Rattle.std.proofs.lemmas.Bool.{and_parts, and_from}
use Rattle.paths.specs.Kind.{FreeLaws}
use Rattle.kinds.specs.Meanings.{Meaning, Lawful, Tells}
use Rattle.kinds.specs.declared.pair.Pair.{Pair}
use Rattle.kinds.specs.Pairs.{pair_means}

and_swap : (a b c d : Bool) → ((a && b) && (c && d)) ≡ ((a && c) && (b && d))
and_swap true true c d = refl
and_swap true false true d = refl
and_swap true false false d = refl
and_swap false b c d = refl

pub pair_tells : {A B : Type 0} {s : A → A → Bool} {t : B → B → Bool} → Tells s → Tells t → Tells (λ (x y : Pair A B). s x.first y.first && t x.second y.second)
pair_tells {s = s} {t = t} first second = record {
  yes = λ x y e. and_from (s x.first y.first) (t x.second y.second) (first.yes x.first y.first (ap (λ p. p.first) e)) (second.yes x.second y.second (ap (λ p. p.second) e));
  only = λ x y e.
      let both = and_parts (s x.first y.first) (t x.second y.second) e in
      let p = first.only x.first y.first both.0 in
      let q = second.only x.second y.second both.1 in
      λ i. record { first = p i; second = q i };
}

module _ {LA PA Ra SA LB PB RB SB : Type 0} (m : Meaning LA PA Ra SA) (n : Meaning LB PB RB SB) where
  pub pair_lawful : Lawful m → Lawful n → Lawful (pair_means m n)
  pair_lawful a b =
      let f = a.laws in
      let s = b.laws in
      record {
        one_value = λ p q e. let x = a.one_value p.first q.first (ap (λ v. v.0) e) in let y = b.one_value p.second q.second (ap (λ v. v.1) e) in λ i. record { first = x i; second = y i };
        laws = record {
          same = λ v. λ i. (f.same v.0 i, s.same v.1 i);
          swap = λ v w. λ i. (f.swap v.0 w.0 i, s.swap v.1 w.1 i);
          group = λ u v w. λ i. (f.group u.0 v.0 w.0 i, s.group u.1 v.1 w.1 i);
          unit = λ v. λ i. (f.unit v.0 i, s.unit v.1 i);
          carry_empty = λ p. λ i. (f.carry_empty p.first i, s.carry_empty p.second i);
          carry_join = λ p v w. λ i. (f.carry_join p.first v.0 w.0 i, s.carry_join p.second v.1 w.1 i);
        };
      }

  pub pair_freeing : FreeLaws m.kind m.free → FreeLaws n.kind n.free → FreeLaws (pair_means m n).kind (pair_means m n).free
  pair_freeing f s = record {
    of_empty = λ d h. rw (f.of_empty d h, s.of_empty d h);
    of_join = λ d v w. rw (f.of_join d v.0 w.0, s.of_join d v.1 w.1) (and_swap (m.free d v.0) (m.free d w.0) (n.free d v.1) (n.free d w.1));
  }
