use Prim.Native.Nat.{◌≤◌, ◌-◌}
use mathlib.Core.Path.{◌≡◌}
use lib.ListN.{length}
use Rattle.worked_program.proofs.longer.Given as goal

abbrev pub invariant-loop-i : goal.invariant-loop-i
invariant-loop-i l = (l.i ≤ 216) × (length l.d ≡ 217)

abbrev pub decreases-loop-i : goal.decreases-loop-i
decreases-loop-i l = 216 - l.i
