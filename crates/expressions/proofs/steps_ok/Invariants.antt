use Rattle.format.specs.Expression.{expression_at}
use Rattle.expressions.proofs.Records.{Stepping}
use Rattle.expressions.proofs.steps_ok.Given as goal

abbrev pub invariant-loop-i : goal.invariant-loop-i
invariant-loop-i l = Stepping (expression_at l.s l.at) l.i l.depth
