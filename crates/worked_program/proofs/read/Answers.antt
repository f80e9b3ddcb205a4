use mathlib.Core.Path.{sym}
use lib.Seq.{length-take-le}
use Rattle.worked_program.proofs.read.Goals as goal

pub slice_bounds-line-end-then-count-le64 : goal.slice_bounds-line-end-then-count-le64
slice_bounds-line-end-then-count-le64 c = sym (length-take-le _ _ (rw c.decode_text.auto.out c.if-count-le64.true))
