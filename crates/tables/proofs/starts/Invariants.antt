use Prim.Native.Nat.{◌-◌, ◌<◌}
use Rattle.format.specs.Numbers.{tables}
use Rattle.format.specs.Description.{description}
use Rattle.tables.proofs.Filling.{Filled}
use Rattle.tables.proofs.starts.Given as goal

abbrev pub invariant-loop-i : goal.invariant-loop-i
invariant-loop-i l = Filled (description l.desc l.layout) l.layout.constructors.count l.starts l.t l.i

abbrev pub decreases-loop-i : goal.decreases-loop-i
decreases-loop-i l = l.layout.constructors.count - l.i

abbrev pub invariant-loop-t : goal.invariant-loop-t
invariant-loop-t l = Filled (description l.desc l.layout) l.layout.constructors.count l.starts l.t l.i
