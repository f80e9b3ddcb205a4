use mathlib.Core.Path.{◌≡◌, sym, ◌∙◌}
use native.Mathlib.Omega.{arith}
use Rattle.bits.specs.Bits.{is_set}
use Rattle.lists.proofs.Below.{all_none, all_more}
use Rattle.format.specs.Expression.{Expression, expression_at, step_of}
use Rattle.expressions.proofs.Names.{named, names-stop, names-end}
use Rattle.expressions.proofs.names_only.Goals.{After-named_ok, Start}
use Rattle.expressions.proofs.names_only.Goals as goal

abbrev record-at : Start → Expression
record-at c = expression_at c.args.s.now c.args.at

-- what the test says of this step
tested : (c : After-named_ok)
    → named (is_set c.args.operands) (step_of (record-at c.before.before.before.before.before.before.before) c.loop-i.i)
    ≡ c.named_ok.result
tested c = sym (c.named_ok.ensures ∙ rw c.step_at.ensures)

pub loop-i-init : goal.loop-i-init
loop-i-init c = all_none _

pub returns-then-not-named_ok : goal.returns-then-not-named_ok
returns-then-not-named_ok c =
    names-stop (is_set c.args.operands) (record-at (goal.at.returns-then-not-named_ok c).Start) c.loop-i.i (omega (arith, c.count_at-count.ensures))
    (tested (goal.at.returns-then-not-named_ok c).After-named_ok ∙ c.if-not-named_ok.true)

pub loop-i-preserved : goal.loop-i-preserved
loop-i-preserved c =
    all_more _ c.loop-i.i c.loop-i.invariant (tested (goal.at.loop-i-preserved c).After-named_ok ∙ c.if-not-named_ok.false)

pub returns : goal.returns
returns c =
    names-end (is_set c.args.operands) c.args.s.now c.args.at c.loop-i.i (omega (arith, c.count_at-count.ensures)) c.loop-i.invariant
