use lib.Seq.{length-take-le}
use native.Mathlib.Omega.{arith}
use mathlib.Core.Path.{sym}
use Rattle.worked_program.proofs.descriptions.Goals as goal

pub slice_bounds-judge-end-12 : goal.slice_bounds-judge-end-12
slice_bounds-judge-end-12 c = sym (length-take-le 54283 c.longest-d.result (omega arith))
