use Rattle.tree_nodes.specs.Gathering.{gathered}
use Rattle.choosing.specs.Patterns.{patterns_in}
use mathlib.Core.Path.{◌≡◌}
use Rattle.tree_nodes.proofs.gather.Given as goal

abbrev pub invariant-loop-j : goal.invariant-loop-j
invariant-loop-j l = l.live ≡ gathered l.table.first (patterns_in l.desc l.constructors l.table) l.p l.j
