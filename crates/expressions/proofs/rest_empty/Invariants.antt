use mathlib.Core.Bool.{true}
use mathlib.Core.Path.{◌≡◌}
use Rattle.lists.specs.Below.{all_below}
use Rattle.format.specs.Expression.{expression_at}
use Rattle.expressions.proofs.Records.{blank}
use Rattle.expressions.proofs.rest_empty.Given as goal

abbrev pub invariant-loop-i : goal.invariant-loop-i
invariant-loop-i l = all_below l.i (blank (expression_at l.s l.at)) ≡ true
