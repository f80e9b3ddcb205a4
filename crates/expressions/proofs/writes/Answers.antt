use Prim.Native.Nat.{◌≤◌}
use mathlib.Core.Path.{sym, ◌∙◌}
use native.Mathlib.Omega.{arith}
use Rattle.format.specs.Expression.{Expression, expression_at}
use Rattle.expressions.proofs.Records.{count-here, too_few, too_many, steps-wrong, all-written}
use Rattle.expressions.proofs.writes.Goals.{Else-count-gt-STEPS, Start}
use Rattle.expressions.proofs.writes.Goals as goal

abbrev record-at : Start → Expression
record-at c = expression_at c.args.s.now c.args.at

-- its steps are some and not too many
counted : (c : Else-count-gt-STEPS)
    → (1 ≤ (record-at c.before.before.before.before.before).count) × ((record-at c.before.before.before.before.before).count ≤ 16)
unfolding expression_at
counted c = (omega arith, omega arith)

pub returns-then-count-lt1 : goal.returns-then-count-lt1
returns-then-count-lt1 c =
    too_few (record-at (goal.at.returns-then-count-lt1 c).Start) (omega (arith, count-here c.args.s.now c.args.at))

pub returns-then-count-gt-STEPS : goal.returns-then-count-gt-STEPS
returns-then-count-gt-STEPS c =
    too_many (record-at (goal.at.returns-then-count-gt-STEPS c).Start) (omega (arith, count-here c.args.s.now c.args.at)) (omega (arith, count-here c.args.s.now c.args.at))

pub steps_ok-requires : goal.steps_ok-requires
steps_ok-requires c = (c.requires, (counted (goal.at.steps_ok-requires c).Else-count-gt-STEPS).1)

pub returns-then-not-steps_ok : goal.returns-then-not-steps_ok
returns-then-not-steps_ok c =
    let k = counted (goal.at.returns-then-not-steps_ok c).Else-count-gt-STEPS in
    steps-wrong (record-at (goal.at.returns-then-not-steps_ok c).Start) k.0 k.1
    (sym c.steps_ok.ensures ∙ c.if-not-steps_ok.true)

pub rest_empty-requires : goal.rest_empty-requires
rest_empty-requires c = (c.requires, (counted (goal.at.rest_empty-requires c).Else-count-gt-STEPS).1)

pub returns : goal.returns
returns c =
    let k = counted (goal.at.returns c).Else-count-gt-STEPS in
    c.rest_empty.ensures
    ∙ all-written (record-at (goal.at.returns c).Start) k.0 k.1
    (sym c.steps_ok.ensures ∙ c.if-not-steps_ok.false)
