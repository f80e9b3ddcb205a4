use mathlib.Core.Bool.{true}
use mathlib.Core.Path.{◌≡◌}
use Rattle.bits.specs.Bits.{is_set}
use Rattle.lists.specs.Below.{all_below}
use Rattle.format.specs.Expression.{expression_at, step_of}
use Rattle.expressions.proofs.Names.{named}
use Rattle.expressions.proofs.names_only.Given as goal

abbrev pub invariant-loop-i : goal.invariant-loop-i
invariant-loop-i l = all_below l.i (λ k. named (is_set l.operands) (step_of (expression_at l.s l.at) k)) ≡ true
