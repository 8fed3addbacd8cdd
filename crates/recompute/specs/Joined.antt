-- What is joined for one place. Assumes nothing.
use Rattle.std.specs.Prelude.{◌≡◌, ℕ, List}
use Rattle.std.specs.List.{ContainsAt as Has}
use Rattle.paths.specs.Kind.{Within}
use Rattle.kinds.specs.Meanings.{Meaning}
use Rattle.links.specs.declared.row.Link.{Link}
use Rattle.recompute.specs.Tables.{value_in}

module _ {L P R S : Type 0} (m : Meaning L P R S) where
  -- what a link brings to its target
  abbrev pub brought : ℕ → List R → Link S → m.Value
  brought n labels l = m.kind.carry (m.leads l.passage) (value_in m n labels l.source.0)

  -- z takes in the value x and what each link into p brings
  pub record Takes (n : ℕ) (labels : List R) (xs : List (Link S)) (p : ℕ) (x z : m.Value) : Type 0 where
    pub mine : Within m.kind x z
    pub each : (l : Link S) → Has xs l → l.target.0 ≡ p → Within m.kind (brought n labels l) z
