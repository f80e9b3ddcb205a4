-- A tree as it stands in bytes, node by node.
use Rattle.std.specs.Prelude.{ℕ, suc, ◌+◌, List, ◌≡◌}
use Rattle.tree_spec.specs.Nodes.{kind_at, bit_at, place_at}
use Rattle.tree_building_spec.specs.Tree.{Tree, leaf, test, size_of}

-- node i of the bytes b: its kind, bit and place
pub record NodeIs (b : List ℕ) (i k c v : ℕ) : Type 0 where
  pub kind : kind_at b i ≡ k
  pub bit : bit_at b i ≡ c
  pub place : place_at b i ≡ v

-- the tree whose first node is node i
pub data Stands (b : List ℕ) : ℕ → Tree → Type 0 where
  tip : {i v : ℕ} → NodeIs b i 0 0 v → Stands b i (leaf v)
  fork : {i k c : ℕ} {z o : Tree} → NodeIs b i k c (suc i + size_of z) → Stands b (suc i) z → Stands b (suc i + size_of z) o
      → Stands b i (test k c z o)
