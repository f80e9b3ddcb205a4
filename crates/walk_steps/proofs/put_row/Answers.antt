use Prim.Native.Nat.{◌*◌}
use native.Mathlib.Omega.{arith}
use lib.ListN.{length-set}
use mir.Facts.{to_z_pos, to_z-of_z}
use mir.Syntax.{w64}
use Rattle.walk_steps.proofs.Writing.{put_five, unwritten, written_row}
use Rattle.walk_steps.proofs.put_row.Goals as goal

pub bounds-rows-at-then-rows-eq-SCRATCH : goal.bounds-rows-at-then-rows-eq-SCRATCH
bounds-rows-at-then-rows-eq-SCRATCH c = simp length-set (omega arith)

pub bounds-rows-at-then-rows-eq-SCRATCH-2 : goal.bounds-rows-at-then-rows-eq-SCRATCH-2
bounds-rows-at-then-rows-eq-SCRATCH-2 c = simp length-set (omega arith)

pub bounds-rows-at-then-rows-eq-SCRATCH-3 : goal.bounds-rows-at-then-rows-eq-SCRATCH-3
bounds-rows-at-then-rows-eq-SCRATCH-3 c = simp length-set (omega arith)

pub bounds-rows-at-then-rows-eq-SCRATCH-4 : goal.bounds-rows-at-then-rows-eq-SCRATCH-4
bounds-rows-at-then-rows-eq-SCRATCH-4 c = simp length-set (omega arith)

pub returns-then-rows-eq-SCRATCH : goal.returns-then-rows-eq-SCRATCH
returns-then-rows-eq-SCRATCH c =
    let l = c.args.rows.now in
    written_row c.args.row _ l _ c.if-rows-eq-SCRATCH.true
    (rw (to_z_pos w64 {n = c.args.kind} (omega arith), to_z_pos w64 {n = c.args.number} (omega arith), to_z_pos w64 {n = c.args.start} (omega arith), to_z_pos w64 {n = c.args.size} (omega arith), to_z-of_z c.ranges.last)
    (put_five l (5 * c.args.row) _ _ _ _ _ (omega arith)))

pub returns-else-rows-eq-SCRATCH : goal.returns-else-rows-eq-SCRATCH
returns-else-rows-eq-SCRATCH c = unwritten _ _ _ c.if-rows-eq-SCRATCH.false
