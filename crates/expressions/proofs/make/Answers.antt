use mir.Facts.{to_z-of_z}
use mathlib.Core.Path.{ap, ◌∙◌}
use Rattle.whole_numbers.specs.Range.{kept}
use Rattle.expressions.proofs.Making.{made-term, made-operator}
use Rattle.expressions.proofs.make.Goals as goal

pub returns-then-step-lt-FIRST_OPERATOR : goal.returns-then-step-lt-FIRST_OPERATOR
returns-then-step-lt-FIRST_OPERATOR c =
    c.term.ensures ∙ ap kept (made-term _ c.args.step c.args.x c.args.y c.if-step-lt-FIRST_OPERATOR.true)

pub returns : goal.returns
returns c =
    rw (to_z-of_z c.ranges.x, to_z-of_z c.ranges.y) at c.operate.ensures
    ∙ ap kept (made-operator _ c.args.step c.args.x c.args.y c.if-step-lt-FIRST_OPERATOR.false)
