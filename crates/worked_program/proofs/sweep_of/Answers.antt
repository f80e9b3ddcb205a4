use mathlib.Core.Path.{sym}
use lib.Seq.{length-take-le}
use Rattle.worked_program.proofs.sweep_of.Goals as goal

pub slice_bounds-sweep-end-then-room-le32-2 : goal.slice_bounds-sweep-end-then-room-le32-2
slice_bounds-sweep-end-then-room-le32-2 c = sym (length-take-le _ _ c.if-room-le32.true)
