use mathlib.Core.Bool.{true}
use mathlib.Core.Path.{◌≡◌, sym, ◌∙◌}
use native.Mathlib.Omega.{arith}
use Rattle.format.specs.Expression.{expression_at, step_ok}
use Rattle.expressions.proofs.Records.{count-here, stepping-start, stepping-more, stepping-stop, stepping-end, enough}
use Rattle.expressions.proofs.steps_ok.Goals.{Else-not-step_ok}
use Rattle.expressions.proofs.steps_ok.Goals as goal

pub loop-i-init : goal.loop-i-init
loop-i-init c = stepping-start _

pub step_at-step-requires : goal.step_at-step-requires
step_at-step-requires c =
    (c.requires.0, omega (arith, c.requires.1, count-here c.args.s.now c.args.at))

pub returns-then-not-step_ok : goal.returns-then-not-step_ok
returns-then-not-step_ok c =
    let e = expression_at c.args.s.now c.args.at in
    stepping-stop e c.loop-i.i c.loop-i.depth c.step_at-step.result c.loop-i.invariant
    c.step_at-step.ensures (omega (arith, count-here c.args.s.now c.args.at))
    (sym c.step_ok.ensures ∙ c.if-not-step_ok.true)

-- the step passed
passed : (c : Else-not-step_ok)
    → step_ok c.loop-i.depth c.step_at-step.result ≡ true
passed c = sym c.step_ok.ensures ∙ c.if-not-step_ok.false

pub overflow_sub-depth : goal.overflow_sub-depth
overflow_sub-depth c =
    omega (arith, c.taken.ensures.0, enough c.loop-i.depth c.step_at-step.result (passed (goal.at.overflow_sub-depth c).Else-not-step_ok))

pub loop-i-preserved : goal.loop-i-preserved
loop-i-preserved c =
    stepping-more _ c.loop-i.i c.loop-i.depth c.taken.result c.step_at-step.result c.loop-i.invariant
    c.step_at-step.ensures (passed (goal.at.loop-i-preserved c).Else-not-step_ok) c.taken.ensures.0

pub returns : goal.returns
returns c =
    stepping-end _ c.loop-i.i c.loop-i.depth c.loop-i.invariant (omega (arith, count-here c.args.s.now c.args.at))
