use native.Mathlib.Omega.{arith}
use mir.Facts.{to_z-of_z}
use Rattle.decoding.proofs.Numbers.{copy_more}
use Rattle.decoding.proofs.copy_rows.Goals as goal

pub loop-k-preserved : goal.loop-k-preserved
loop-k-preserved c =
    rw (to_z-of_z (record { sfits = c.rows-1.given })) (copy_more _ _ _ _ c.loop-k.invariant (omega (arith, c.loop-k.invariant.long)))
