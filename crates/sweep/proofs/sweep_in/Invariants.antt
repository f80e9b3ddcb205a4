use Prim.Native.Nat.{◌-◌}
use lib.ListN.{length}
use Rattle.sweep.proofs.Turns.{LoopState}
use Rattle.sweep.proofs.sweep_in.Given as goal

-- `sweep::sweep_in` meets its contract. Assumes nothing.
abbrev pub invariant-loop-at : goal.invariant-loop-at
invariant-loop-at l = LoopState l.desc l.initial.fixed l.context l.address l.alignment l.code l.room l.initial.rows l.rows l.fixed l.at l.n

abbrev pub decreases-loop-at : goal.decreases-loop-at
decreases-loop-at l = length l.code - l.at
