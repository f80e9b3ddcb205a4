use Prim.Native.Nat.{suc, ◌+◌, ◌≤◌, ◌<◌}
use mathlib.Core.Path.{◌≡◌, sym, ap, ◌∙◌}
use native.Mathlib.Omega.{arith}
use lib.IntN.{pos}
use lib.ListN.{get_or, length}
use Rattle.format.specs.Expression.{Expression, expression_at}
use Rattle.whole_numbers.specs.Range.{kept}
use Rattle.whole_numbers.proofs.Kept.{back, inside-mag, is-value, is-outside}
use Rattle.expressions.specs.Value.{Given, given, numbered, top_after}
use Rattle.expressions.proofs.Records.{count-here, written}
use Rattle.expressions.proofs.Names.{names_at}
use Rattle.expressions.proofs.Running.{Good, good-step, running-start, running-made, running-step, running-stop, running-end}
use Rattle.expressions.proofs.evaluate.Goals.{After-make, In-loop-i, Start}
use Rattle.expressions.proofs.evaluate.Goals as goal

abbrev record-at : Start → Expression
record-at c = expression_at c.args.s.now c.args.at

abbrev given-at : Start → Given
given-at c = given c.args.operands.now c.args.here c.args.after

-- this turn's step counts ..
counts : (c : In-loop-i) → c.loop-i.i < (record-at c.before.before.before.before.before).count
counts c = omega (arith, count-here c.args.s.now c.args.at)

-- .. and passed the check
good : (c : In-loop-i) → Good (record-at c.before.before.before.before.before) c.loop-i.i
good c = good-step (record-at c.before.before.before.before.before) c.loop-i.i (written (record-at c.before.before.before.before.before) c.requires.right) (counts c)

-- the stack's top is one of its sixteen cells, or the one below them
low : (c : In-loop-i) → (1 ≤ c.loop-i.top) × (c.loop-i.top ≤ 16)
low c = (omega (arith, c.loop-i.invariant.deep, (good c).few, (good c).low), omega (arith, c.loop-i.invariant.deep))

-- what was made is the next topmost value, if it is inside
made-is : (c : After-make)
    → c.make.result
    ≡ kept (top_after (given-at c.before.before.before.before.before.before.before.before.before) (record-at c.before.before.before.before.before.before.before.before.before) (suc c.loop-i.i))
made-is c =
    rw (
      back (get_or c.loop-i.stack (c.loop-i.top + 1) (pos 0)) c.x-1.given,
      back (get_or c.loop-i.stack c.loop-i.top (pos 0)) c.y-1.given,
    ) at c.make.ensures
    ∙ ap kept (running-made (given-at c.before.before.before.before.before.before.before.before.before) (record-at c.before.before.before.before.before.before.before.before.before) c.loop-i.i c.loop-i.stack c.loop-i.top c.step_at-step.result c.loop-i.invariant c.step_at-step.ensures)

pub loop-i-init : goal.loop-i-init
loop-i-init c = running-start _ _

pub step_at-step-requires : goal.step_at-step-requires
step_at-step-requires c = (c.requires.within, (good (goal.at.step_at-step-requires c).In-loop-i).few)

pub make-requires : goal.make-requires
make-requires c =
    rw c.step_at-step.ensures ((good (goal.at.make-requires c).In-loop-i).value, names_at (numbered (length c.args.operands.now)) (record-at (goal.at.make-requires c).Start) c.loop-i.i c.requires.names (counts (goal.at.make-requires c).In-loop-i))

pub returns-in_err-v : goal.returns-in_err-v
returns-in_err-v c =
    c.from_residual.ensures
    ∙ running-stop (given-at (goal.at.returns-in_err-v c).Start) (record-at (goal.at.returns-in_err-v c).Start) c.loop-i.i c.loop-i.stack c.loop-i.top c.loop-i.invariant (counts (goal.at.returns-in_err-v c).In-loop-i)
    (is-outside _ (sym (made-is (goal.at.returns-in_err-v c).After-make) ∙ c.in_err-v.was))

pub overflow_sub-top : goal.overflow_sub-top
overflow_sub-top c = omega (arith, low (goal.at.overflow_sub-top c).In-loop-i)

pub loop-i-preserved : goal.loop-i-preserved
loop-i-preserved c =
    let s = (goal.at.loop-i-preserved c).Start in
    let v = c.in_ok-v.v in
    let k = is-value (top_after (given-at s) (record-at s) (suc c.loop-i.i)) v (sym (made-is (goal.at.loop-i-preserved c).After-make) ∙ c.in_ok-v.was) in
    rw (c.from.ensures, back v (inside-mag v (rw (← k.0) at k.1)))
    (running-step (given-at s) (record-at s) c.loop-i.i c.loop-i.stack c.loop-i.top c.taken.result v c.loop-i.invariant (good (goal.at.loop-i-preserved c).In-loop-i) (rw c.step_at-step.ensures at c.taken.ensures.0) k.0 (rw (← k.0) at k.1))

pub returns : goal.returns
returns c =
    rw (back _ c.result-1.given)
    (running-end (given-at (goal.at.returns c).Start) (record-at (goal.at.returns c).Start) c.loop-i.i c.loop-i.stack c.loop-i.top c.loop-i.invariant (omega (arith, count-here c.args.s.now c.args.at)))
