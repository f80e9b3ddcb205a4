use Prim.Native.Nat.{◌-◌}
use Rattle.tree_form.proofs.+walk.Given as goal

abbrev pub decreases-walk : goal.decreases-walk
decreases-walk l = l.count - l.i
