use mathlib.Core.Bool.{◌&&◌}
use mathlib.Core.Path.{◌≡◌, ◌∙◌}
use native.Mathlib.Omega.{arith}
use lib.Dec.{eqb}
use Rattle.lists.proofs.Below.{all_more}
use Rattle.format.specs.Expression.{Expression, expression_at}
use Rattle.expressions.proofs.Records.{count-here, blank, blank-is, rest-start, rest-stop, rest_end}
use Rattle.expressions.proofs.rest_empty.Goals.{After-struct_known-in-loop-i-1, Start}
use Rattle.expressions.proofs.rest_empty.Goals as goal

pub loop-i-init : goal.loop-i-init
unfolding expression_at
loop-i-init c =
    rest-start (expression_at c.args.s.now c.args.at)

abbrev record-at : Start → Expression
record-at c = expression_at c.args.s.now c.args.at

-- what the test says of this step
tested : (c : After-struct_known-in-loop-i-1)
    → blank (record-at c.before.before.before.before.before.before.before.before) c.loop-i.i
    ≡ (eqb c.step_at-step.result.kind 0 && eqb c.step_at-step.result.value 0)
tested c =
    blank-is (record-at c.before.before.before.before.before.before.before.before) c.loop-i.i c.step_at-step.result (omega (arith, count-here c.args.s.now c.args.at)) c.step_at-step.ensures

pub returns-then-not-step : goal.returns-then-not-step
returns-then-not-step c =
    rest-stop _ c.loop-i.i (omega arith) (tested (goal.at.returns-then-not-step c).After-struct_known-in-loop-i-1 ∙ c.if-not-step.true)

pub loop-i-preserved : goal.loop-i-preserved
loop-i-preserved c =
    all_more _ c.loop-i.i c.loop-i.invariant (tested (goal.at.loop-i-preserved c).After-struct_known-in-loop-i-1 ∙ c.if-not-step.false)

pub returns : goal.returns
returns c = rest_end _ c.loop-i.i (omega (arith, count-here c.args.s.now c.args.at)) c.loop-i.invariant
