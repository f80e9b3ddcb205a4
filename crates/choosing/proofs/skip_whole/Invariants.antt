use Prim.Native.Nat.{◌-◌, ◌%◌}
use mathlib.Core.Path.{◌≡◌}
use Rattle.choosing.specs.Patterns.{patterns_in}
use Rattle.choosing.specs.Scan.{Skips}
use Rattle.choosing.proofs.skip_whole.Given as goal

abbrev pub invariant-loop-j : goal.invariant-loop-j
invariant-loop-j l = Skips (patterns_in l.desc l.constructors l.table) l.input l.table.count l.from l.j

abbrev pub decreases-loop-j : goal.decreases-loop-j
decreases-loop-j l = l.table.count - l.j

abbrev pub invariant-loop-j-2 : goal.invariant-loop-j-2
invariant-loop-j-2 l = Skips (patterns_in l.desc l.constructors l.table) l.input l.table.count l.from l.j × ((l.table.count - l.j) % 8 ≡ 0)

abbrev pub decreases-loop-j-2 : goal.decreases-loop-j-2
decreases-loop-j-2 l = l.table.count - l.j
