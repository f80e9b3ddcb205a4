-- What the theorems say of an asked table.
use Rattle.std.specs.Prelude.{ℕ, List, ◌≡◌}
use Rattle.format.specs.Description.{Description}
use Rattle.patterns.specs.Relations.{weight}
use Rattle.choosing_spec.specs.Records.{pattern_of, TakenIn}

-- constructor k of table t is taken for the bytes s and the context c, and w is "the weight of the taken pattern"
pub record TakenWith (d : Description) (t c : ℕ) (s : List ℕ) (k w : ℕ) : Type 0 where
  pub taken : TakenIn d t s c k
  pub weighs : w ≡ weight (pattern_of d k)
