use mathlib.Core.Path.{sym}
use native.Mathlib.Omega.{arith}
use lib.ListN.{length-set, length-replicate}
use Rattle.worked_program.proofs.longer.Goals as goal

pub loop-i-init : goal.loop-i-init
loop-i-init c = (omega arith, simp length-replicate)

pub loop-i-preserved : goal.loop-i-preserved
loop-i-preserved c = (omega arith, simp length-set c.loop-i.invariant.1)

pub returns : goal.returns
returns c = sym c.loop-i.invariant.1
