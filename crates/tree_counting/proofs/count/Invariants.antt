use Rattle.tree_counting.specs.Seen.{Seen}
use Rattle.choosing.specs.Patterns.{patterns_in}
use Rattle.tree_counting.proofs.count.Given as goal

abbrev pub invariant-loop-before : goal.invariant-loop-before
invariant-loop-before l = Seen l.table.first (patterns_in l.desc l.constructors l.table) l.table.count l.p l.before
