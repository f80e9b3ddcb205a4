-- A tree whose leaves' places fit into two bytes.
use Rattle.std.specs.Prelude.{ℕ, ◌<◌}
use Rattle.tree_building_spec.specs.Tree.{Tree, leaf, test}

pub data Plain : Tree → Type 0 where
  plain-leaf : {v : ℕ} → v < 65536 → Plain (leaf v)
  plain-test : {k c : ℕ} {z o : Tree} → Plain z → Plain o → Plain (test k c z o)
