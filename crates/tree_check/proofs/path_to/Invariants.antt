use Rattle.tree_check.proofs.Standing.{Standing}
use Prim.Native.Nat.{◌-◌}
use Rattle.tree_check.proofs.path_to.Given as goal

abbrev pub invariant-loop-t : goal.invariant-loop-t
invariant-loop-t l = Standing l.tree l.leaf l.p l.t

abbrev pub decreases-loop-t : goal.decreases-loop-t
decreases-loop-t l = l.leaf - l.t
