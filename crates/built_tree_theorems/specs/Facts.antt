-- A table of accepted bytes that has no clash, and its tree.
use Rattle.std.specs.Prelude.{ℕ, ◌+◌, ◌-◌, ◌*◌, ◌<◌, ◌≤◌, true, List, ◌⊎◌, ◌≡◌, take, drop, None, Ok}
use Rattle.format.specs.Description.{description}
use Rattle.format.specs.Rules.{has_table}
use Rattle.format.specs.Tables.{table_first, table_end}
use Rattle.format.specs.declared.Layout.{Layout}
use Rattle.format.specs.declared.Pattern.{Pattern}
use Rattle.acceptance.specs.Acceptance.{acceptance_of}
use Rattle.choosing_spec.specs.Clashing.{clash_of}
use Rattle.choosing_spec.specs.Table.{pattern_from}
use Rattle.tree_spec.specs.Form.{form_of}
use Rattle.tree_spec.specs.Nodes.{most_nodes}
use Rattle.tree_building_spec.specs.Tree.{Tree, tree_of, size_of, tree_bytes}

-- a table's first constructor, its patterns and how many they are
abbrev pub first_of : List ℕ → Layout → ℕ → ℕ
first_of b l t = table_first (description b l) t

abbrev pub patterns_for : List ℕ → Layout → ℕ → ℕ → Pattern
patterns_for b l t = pattern_from (description b l) (first_of b l t)

abbrev pub records_for : List ℕ → Layout → ℕ → ℕ
records_for b l t = table_end (description b l) t - first_of b l t

-- the rule's tree for it
abbrev pub tree_for : List ℕ → Layout → ℕ → Tree
tree_for b l t = tree_of (first_of b l t) (patterns_for b l t) (records_for b l t)

-- bytes b are a description, with this layout, that has table t, and the table has no clash
pub record ClearTable (b : List ℕ) (t : ℕ) (l : Layout) : Type 0 where
  pub accepted : acceptance_of b ≡ Ok l
  pub has : has_table (description b l) t ≡ true
  pub clear : clash_of (patterns_for b l t) (records_for b l t) ≡ None

-- "a tree over 4,095 nodes or larger than the lent buffer"
abbrev pub Large : Tree → ℕ → Type 0
Large t room = (most_nodes < size_of t) ⊎ (room < 2 + 4 * size_of t)

-- k bytes of the lent ones are the rule's tree, which is well formed, and those behind them are as they were
pub record WroteTree (b : List ℕ) (t : ℕ) (old new : List ℕ) (k : ℕ) : Type 0 where
  pub layout : Layout
  pub table : ClearTable b t layout
  pub few : size_of (tree_for b layout t) ≤ most_nodes
  pub size : k ≡ 2 + 4 * size_of (tree_for b layout t)
  pub tree : take k new ≡ tree_bytes (tree_for b layout t)
  pub behind : drop k new ≡ drop k old
  pub formed : form_of (first_of b layout t) (records_for b layout t) (take k new) ≡ Ok tt
