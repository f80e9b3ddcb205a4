-- What the rule's node says of the table.
use Rattle.std.specs.Prelude.{ℕ, ◌+◌, ◌<◌, true, false, ◌≡◌}
use Rattle.format.specs.declared.Pattern.{Pattern}
use Rattle.patterns.specs.Relations.{inside}
use Rattle.tree_spec.specs.Nodes.{no_place}
use Rattle.tree_building_spec.specs.Rule.{kind_of, bit_of, live, wanted}
use Rattle.tree_building_spec.specs.declared.Node.{Node}
use Rattle.tree_building_spec.specs.declared.Node.TheVariants.{Leaf, Test}

-- the path lies inside record t's pattern, which lies strictly inside every other live one
pub record Innermost (at : ℕ → Pattern) (n : ℕ) (p : Pattern) (t : ℕ) : Type 0 where
  pub within : t < n
  pub holds : inside p (at t) ≡ true
  pub below : (j : ℕ) → j < n → (j ≡ t → ⊥) → live at n p j ≡ true → (inside (at t) (at j) ≡ true) × (inside (at j) (at t) ≡ false)

-- bit k is the lowest one that a live pattern masks and that is not on the path
pub record Lowest (at : ℕ → Pattern) (n : ℕ) (p : Pattern) (k : ℕ) : Type 0 where
  pub small : k < 96
  pub here : wanted at n p k ≡ true
  pub none : (j : ℕ) → j < k → wanted at n p j ≡ false

pub data Decides (first : ℕ) (at : ℕ → Pattern) (n : ℕ) (p : Pattern) : Node → Type 0 where
  empty : ((j : ℕ) → j < n → live at n p j ≡ false) → Decides first at n p (Leaf no_place)
  names : (t : ℕ) → Innermost at n p t → Decides first at n p (Leaf (first + t))
  tests : (k : ℕ) → Lowest at n p k → Decides first at n p (Test (kind_of k) (bit_of k))
