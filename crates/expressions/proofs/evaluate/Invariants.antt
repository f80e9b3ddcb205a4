use Rattle.format.specs.Expression.{expression_at}
use Rattle.expressions.specs.Value.{given}
use Rattle.expressions.proofs.Running.{Running}
use Rattle.expressions.proofs.evaluate.Given as goal

abbrev pub invariant-loop-i : goal.invariant-loop-i
invariant-loop-i l = Running (given l.operands l.here l.after) (expression_at l.s l.at) l.i l.stack l.top
