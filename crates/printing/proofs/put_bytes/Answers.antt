use mathlib.Core.Path.{◌≡◌, refl}
use native.Mathlib.Omega.{arith}
use lib.ListN.{take}
use lib.Seq.{take_all}
use Rattle.printing.specs.Writing.{over}
use Rattle.printing.proofs.Writing.{puts-done, copy_more}
use Rattle.printing.proofs.put_bytes.Goals as goal

pub loop-i-init : goal.loop-i-init
unfolding over
loop-i-init c = refl

pub loop-i-preserved : goal.loop-i-preserved
loop-i-preserved c = rw c.loop-i.invariant (copy_more c.args.src.now c.args.out.now c.loop-i.i (omega arith) (omega arith))

pub returns : goal.returns
returns c =
    let all : take c.loop-i.i c.args.src.now ≡ c.args.src.now = take_all c.loop-i.i c.args.src.now (omega arith) in
    puts-done c.args.src.now c.args.out.now (omega arith) (rw all at c.loop-i.invariant)
