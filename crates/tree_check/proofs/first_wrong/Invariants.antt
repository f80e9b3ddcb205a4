use mathlib.Core.Bool.{false}
use mathlib.Core.Path.{◌≡◌}
use Rattle.std.specs.Prelude.{None}
use Rattle.tree_theorems.specs.Path.{path_of}
use Rattle.tree_spec.specs.Nodes.{place_at}
use Rattle.tree_rule.specs.Rule.{shows_wrong}
use Rattle.lists.specs.Below.{any_below}
use Rattle.format.specs.Description.{description}
use Rattle.choosing_spec.specs.Table.{pattern_from}
use Rattle.tree_check.specs.Search.{ClearBefore}
use Rattle.tree_check.proofs.first_wrong.Given as goal

abbrev pub invariant-loop-j : goal.invariant-loop-j
invariant-loop-j l =
    (l.found ≡ None)
    × (any_below l.j (shows_wrong l.table.first (pattern_from (description l.desc l.layout) l.table.first) (path_of l.tree l.i) (place_at l.tree l.i)) ≡ false)

abbrev pub invariant-leaves : goal.invariant-leaves
invariant-leaves l =
    (l.found ≡ None) × ClearBefore (pattern_from (description l.desc l.layout) l.table.first) l.table l.tree l.i
