-- A label kind: what its join and its passages make of labels, when a label is free, and the laws of both. Assumes nothing.
use Rattle.std.specs.Prelude.{◌≡◌, ℕ, ◌<◌, Bool, true, ◌&&◌}

-- V are the labels, P the passages that carry a label over a link
pub record Kind (V P : Type 0) : Type 0 where
  pub empty : V
  pub join : V → V → V
  pub carry : P → V → V

pub record Laws {V P : Type 0} (k : Kind V P) : Type 0 where
  -- a label joined with itself is itself; the order of two and the bracketing of three do not matter; the empty one adds nothing
  pub same : (x : V) → k.join x x ≡ x
  pub swap : (x y : V) → k.join x y ≡ k.join y x
  pub group : (x y z : V) → k.join (k.join x y) z ≡ k.join x (k.join y z)
  pub unit : (x : V) → k.join k.empty x ≡ x
  -- a passage carries the empty label to the empty one, and a join to the join of the two carried labels
  pub carry_empty : (t : P) → k.carry t k.empty ≡ k.empty
  pub carry_join : (t : P) (x y : V) → k.carry t (k.join x y) ≡ k.join (k.carry t x) (k.carry t y)

-- the empty label is free on every day, and a join exactly when both its labels are; days are counted from 1
pub record FreeLaws {V P : Type 0} (k : Kind V P) (free : ℕ → V → Bool) : Type 0 where
  pub of_empty : (d : ℕ) → 0 < d → free d k.empty ≡ true
  pub of_join : (d : ℕ) (x y : V) → free d (k.join x y) ≡ (free d x && free d y)

-- x adds nothing to y: y takes x in
abbrev pub Within : {V P : Type 0} → Kind V P → V → V → Type 0
Within k x y = k.join x y ≡ y
