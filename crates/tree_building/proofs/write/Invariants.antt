use Rattle.tree_building.specs.Growing.{Progress}
use Rattle.choosing.specs.Patterns.{patterns_in}
use Rattle.tree_building.proofs.write.Given as goal

abbrev pub invariant-loop-i : goal.invariant-loop-i
invariant-loop-i l =
    Progress l.table.first (patterns_in l.desc l.constructors l.table) l.table.count l.count l.initial.out l.out l.p l.waiting l.i
