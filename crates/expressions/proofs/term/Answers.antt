use mathlib.Core.Path.{ap, sym, ◌∙◌}
use native.Mathlib.Omega.{arith}
use lib.IntN.{pos}
use Rattle.whole_numbers.specs.Range.{kept}
use Rattle.whole_numbers.proofs.Kept.{keeps, mag-inside}
use Rattle.expressions.specs.Value.{Given, given}
use Rattle.expressions.proofs.Making.{converted, constant-word, is-constant, is-operand, is-here, is-after}
use Rattle.expressions.proofs.term.Goals.{In-1, Start}
use Rattle.expressions.proofs.term.Goals as goal

abbrev given-at : Start → Given
given-at c = given c.args.operands.now c.args.here c.args.after

pub returns-in-0 : goal.returns-in-0
returns-in-0 c =
    keeps c.cast_signed.result (mag-inside c.cast_signed.result c.cast_signed.type_inv)
    ∙ ap kept (c.cast_signed.ensures ∙ constant-word c.args.step.value (omega arith) ∙ sym (is-constant (given-at (goal.at.returns-in-0 c).Start) c.args.step c.in-0.is))

pub returns-in-1 : goal.returns-in-1
returns-in-1 c =
    keeps _ (mag-inside _ c.result-1.given) ∙ ap kept (sym (is-operand (given-at (goal.at.returns-in-1 c).Start) c.args.step c.in-1.is))

pub returns-in-2 : goal.returns-in-2
returns-in-2 c =
    c.ok.ensures.value ∙ converted c.try_from.result (pos c.args.here) c.try_from.ensures ∙ ap kept (sym (is-here (given-at (goal.at.returns-in-2 c).Start) c.args.step c.in-2.is))

pub returns-in_default : goal.returns-in_default
returns-in_default c =
    let r = c.in_default.in_default-own.rest in
    c.ok-in_default.ensures.value ∙ converted c.try_from-in_default.result (pos c.args.after) c.try_from-in_default.ensures ∙ ap kept (sym (is-after (given-at (goal.at.returns-in_default c).Start) c.args.step r.0.0.1 r.0.1 r.1))
