-- The tree at the end of any path: its depth is what the path leaves.
use Rattle.std.specs.Prelude.{ℕ, zero, suc, ◌-◌, cond}
use Rattle.format.specs.declared.Pattern.{Pattern}
use Rattle.tree_building_spec.specs.Rule.{masks}
use Rattle.tree_building_spec.specs.Tree.{Tree, tree_from}

-- how many of the first k bits are on a path
unfoldable pub tests_below : ℕ → Pattern → ℕ
tests_below zero p = 0
tests_below (suc k) p = cond (masks p k) (suc (tests_below k p)) (tests_below k p)

unfoldable pub tree_at : ℕ → (ℕ → Pattern) → ℕ → Pattern → Tree
tree_at first at n p = tree_from first at n (97 - tests_below 96 p) p
