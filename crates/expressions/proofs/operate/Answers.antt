use Prim.Native.Nat.{ℕ, ◌≤◌, ◌<◌, ◌^◌}
use mathlib.Core.Path.{◌≡◌, ap, ◌∙◌}
use native.Mathlib.Omega.{arith}
use lib.IntN.{ℤ}
use lib.Signed.{mag}
use mir.Facts.{to_z-of_z}
use mir.Syntax.{w64}
use mir.Val.{to_z, of_z}
use Rattle.whole_numbers.specs.Range.{kept}
use Rattle.std.specs.Prelude.{Some}
use Rattle.whole_numbers.proofs.Kept.{keeps, mag-inside}
use Rattle.expressions.proofs.Making.{is-plus, is-minus, is-times, is-and, is-or, is-xor, is-left, is_right, shift_small, last-kind}
use Rattle.expressions.proofs.operate.Goals.{In-10, In_default}
use Rattle.expressions.proofs.operate.Goals as goal

-- what a function gives as an i64 is kept
held : (z : ℤ) → mag z < 2 ^ 63 → Some (to_z w64 (of_z w64 z)) ≡ kept z
held z h = keeps z (mag-inside z h)

leftwards : (c : In-10) → c.args.step.value < 64
leftwards c = (shift_small c.args.step c.requires.0 (omega arith)).1

rightwards : (c : In_default) → (c.args.step.kind ≡ 11) × (c.args.step.value < 64)
rightwards c =
    let r = c.in_default.in_default-own.rest in
    let l = last-kind c.args.step.kind c.requires.1 r.0.0.0.0.0.0.1 r.0.0.0.0.0.1 r.0.0.0.0.1 r.0.0.0.1 r.0.0.1 r.0.1 r.1 in
    let h = shift_small c.args.step c.requires.0 (omega (arith, l)) in
    (only c.args.step.kind l h.0, h.1)
  where
    only : (k : ℕ) → 11 ≤ k → k < 12 → k ≡ 11
    only k p q = omega arith

pub overflow_cast-step : goal.overflow_cast-step
overflow_cast-step c = omega (arith, leftwards (goal.at.overflow_cast-step c).In-10)

pub left-requires : goal.left-requires
left-requires c = leftwards (goal.at.left-requires c).In-10

pub overflow_cast-step-in_default : goal.overflow_cast-step-in_default
overflow_cast-step-in_default c = omega (arith, (rightwards (goal.at.overflow_cast-step-in_default c).In_default).1)

pub right-requires : goal.right-requires
right-requires c = (rightwards (goal.at.right-requires c).In_default).1

pub returns-in-4 : goal.returns-in-4
returns-in-4 c =
    rw (to_z-of_z c.ranges.x, to_z-of_z c.ranges.y) at c.plus.ensures
    ∙ ap kept (is-plus c.args.step c.args.x c.args.y c.in-4.is)

pub returns-in-5 : goal.returns-in-5
returns-in-5 c =
    rw (to_z-of_z c.ranges.x, to_z-of_z c.ranges.y) at c.minus.ensures
    ∙ ap kept (is-minus c.args.step c.args.x c.args.y c.in-5.is)

pub returns-in-6 : goal.returns-in-6
returns-in-6 c =
    rw (to_z-of_z c.ranges.x, to_z-of_z c.ranges.y) at c.times.ensures
    ∙ ap kept (is-times c.args.step c.args.x c.args.y c.in-6.is)

pub returns-in-7 : goal.returns-in-7
returns-in-7 c =
    held c.and.result c.and.type_inv
    ∙ ap kept (rw (to_z-of_z c.ranges.x, to_z-of_z c.ranges.y) at c.and.ensures ∙ is-and c.args.step c.args.x c.args.y c.in-7.is)

pub returns-in-8 : goal.returns-in-8
returns-in-8 c =
    held c.or.result c.or.type_inv
    ∙ ap kept (rw (to_z-of_z c.ranges.x, to_z-of_z c.ranges.y) at c.or.ensures ∙ is-or c.args.step c.args.x c.args.y c.in-8.is)

pub returns-in-9 : goal.returns-in-9
returns-in-9 c =
    held c.xor.result c.xor.type_inv
    ∙ ap kept (rw (to_z-of_z c.ranges.x, to_z-of_z c.ranges.y) at c.xor.ensures ∙ is-xor c.args.step c.args.x c.args.y c.in-9.is)

pub returns-in-10 : goal.returns-in-10
returns-in-10 c =
    rw (to_z-of_z c.ranges.y) at c.left.ensures
    ∙ ap kept (is-left c.args.step c.args.x c.args.y c.in-10.is)

pub returns-in_default : goal.returns-in_default
returns-in_default c =
    held c.right.result c.right.type_inv
    ∙ ap kept (rw (to_z-of_z c.ranges.y) at c.right.ensures ∙ is_right c.args.step c.args.x c.args.y (rightwards (goal.at.returns-in_default c).In_default).0)
