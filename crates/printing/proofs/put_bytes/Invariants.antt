use lib.ListN.{take}
use mathlib.Core.Path.{◌≡◌}
use Rattle.printing.specs.Writing.{over}
use Rattle.printing.proofs.put_bytes.Given as goal

abbrev pub invariant-loop-i : goal.invariant-loop-i
invariant-loop-i l = l.out ≡ over (take l.i l.src) l.initial.out
