use mathlib.Core.Path.{sym}
use native.Mathlib.Omega.{arith}
use lib.ListN.{length-set, length-replicate}
use Rattle.worked_program.proofs.longest.Goals as goal

pub loop-i-init : goal.loop-i-init
loop-i-init c = (omega arith, simp (length-set, length-replicate))

pub loop-i-preserved : goal.loop-i-preserved
loop-i-preserved c = (omega arith, simp length-set c.loop-i.invariant.1)

pub loop-i-2-init : goal.loop-i-2-init
loop-i-2-init c = (omega arith, c.loop-i.invariant.1)

pub loop-i-2-preserved : goal.loop-i-2-preserved
loop-i-2-preserved c = (omega arith, simp length-set c.loop-i-2.invariant.1)

pub loop-i-3-init : goal.loop-i-3-init
loop-i-3-init c = (omega arith, c.loop-i-2.invariant.1)

pub loop-i-3-preserved : goal.loop-i-3-preserved
loop-i-3-preserved c = (omega arith, simp length-set c.loop-i-3.invariant.1)

pub returns : goal.returns
returns c = sym c.loop-i-3.invariant.1
