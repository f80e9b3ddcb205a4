-- The tree that grows from the rule's nodes, and its bytes.
use Rattle.std.specs.Prelude.{ℕ, zero, suc, ◌+◌, List, ◌∷◌, ◌++◌}
use Rattle.format.specs.declared.Pattern.{Pattern}
use Rattle.tree_spec.specs.Nodes.{no_place}
use Rattle.tree_spec.specs.Form.{start, side}
use Rattle.tree_spec.specs.Verdicts.{bytes_of}
use Rattle.tree_building_spec.specs.Rule.{node_of}
use Rattle.tree_building_spec.specs.declared.Node.{Node}
use Rattle.tree_building_spec.specs.declared.Node.TheVariants.{Leaf, Test}

-- a leaf says its place; a test has its kind, its bit, the zero side and the one side
pub data Tree : Type 0 where
  leaf : ℕ → Tree
  test : ℕ → ℕ → Tree → Tree → Tree

-- a node with the trees behind it: `on kind bit x` is the one behind side x
abbrev pub grown : Node → (ℕ → ℕ → ℕ → Tree) → Tree
grown (Leaf v) on = leaf v
grown (Test k b) on = test k b (on k b 0) (on k b 1)

-- the tree from the end of path p on, with so many nodes on a path at most
unfoldable pub tree_from : ℕ → (ℕ → Pattern) → ℕ → ℕ → Pattern → Tree
tree_from first at n zero p = leaf no_place
tree_from first at n (suc deep) p = grown (node_of first at n p) (λ k b x. tree_from first at n deep (side p k b x))

-- the tree of the whole table: no path has more than 96 tests and a leaf
unfoldable pub tree_of : ℕ → (ℕ → Pattern) → ℕ → Tree
tree_of first at n = tree_from first at n 97 start

unfoldable pub size_of : Tree → ℕ
size_of (leaf v) = 1
size_of (test k b z o) = suc (size_of z + size_of o)

-- "nodes of four bytes: kind, bit, place (2)"
abbrev pub node_bytes : ℕ → ℕ → ℕ → List ℕ
node_bytes kind bit place = kind ∷ bit ∷ bytes_of 2 place

-- the bytes of a tree whose first node is node i: "The zero side is the next node; the place is the one side, which starts where
-- the zero side ends."
unfoldable pub nodes_from : ℕ → Tree → List ℕ
nodes_from i (leaf v) = node_bytes 0 0 v
nodes_from i (test k b z o) =
    node_bytes k b (suc i + size_of z) ++ (nodes_from (suc i) z ++ nodes_from (suc i + size_of z) o)

-- "A count (2), then 1 to 4,095 nodes"
unfoldable pub tree_bytes : Tree → List ℕ
tree_bytes t = bytes_of 2 (size_of t) ++ nodes_from 0 t
