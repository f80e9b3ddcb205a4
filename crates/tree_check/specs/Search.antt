-- What the search over the leaves goes by, and what it finds.
use Rattle.std.specs.Prelude.{ℕ, ◌+◌, ◌-◌, ◌<◌, ◌≤◌, cond, eqb, true, false, List, ◌≡◌, Option, Some, None, Ok}
use Rattle.lists.specs.Below.{any_below}
use Rattle.format.specs.Numbers.{most_constructors}
use Rattle.format.specs.Layout.{SectionsInBounds}
use Rattle.format.specs.declared.Layout.{Layout}
use Rattle.format.specs.declared.Pattern.{Pattern}
use Rattle.tables.specs.declared.Table.{Table}
use Rattle.tree_spec.specs.Nodes.{no_place, count_of, kind_at, place_at}
use Rattle.tree_spec.specs.Form.{form_of}
use Rattle.tree_rule.specs.Rule.{shows_wrong}
use Rattle.tree_theorems.specs.Path.{path_of}

-- a tree of good form for a table that lies in its section
pub record Leaves (desc : List ℕ) (layout : Layout) (table : Table) (tree : List ℕ) (count : ℕ) : Type 0 where
  pub room : SectionsInBounds desc layout
  pub within : table.first + table.count ≤ layout.constructors.count
  pub low : table.first + table.count ≤ most_constructors
  pub good : form_of table.first table.count tree ≡ Ok tt
  pub nodes : count ≡ count_of tree

-- the pattern of the constructor that a leaf names which says v, in a table whose first is constructor `first`
abbrev pub named_in : ℕ → (ℕ → Pattern) → ℕ → Option Pattern
named_in first at v = cond (eqb v no_place) None (Some (at (v - first)))

-- no record of the table shows leaf i wrong
abbrev pub ClearLeaf : (ℕ → Pattern) → Table → List ℕ → ℕ → Type 0
ClearLeaf at table tree i = any_below table.count (shows_wrong table.first at (path_of tree i) (place_at tree i)) ≡ false

-- no leaf before node i is shown wrong
abbrev pub ClearBefore : (ℕ → Pattern) → Table → List ℕ → ℕ → Type 0
ClearBefore at table tree i = (k : ℕ) → k < i → kind_at tree k ≡ 0 → ClearLeaf at table tree k

-- leaf i is the first one that a record shows wrong, and j is such a record
pub record FirstWrong (at : ℕ → Pattern) (table : Table) (tree : List ℕ) (i j : ℕ) : Type 0 where
  pub here : i < count_of tree
  pub leaf : kind_at tree i ≡ 0
  pub by : j < table.count
  pub shown : shows_wrong table.first at (path_of tree i) (place_at tree i) j ≡ true
  pub earlier : ClearBefore at table tree i

abbrev pub Sought : (ℕ → Pattern) → Table → List ℕ → Option (ℕ × ℕ) → Type 0
Sought at table tree (Some (i, j)) = FirstWrong at table tree i j
Sought at table tree None = ClearBefore at table tree (count_of tree)
