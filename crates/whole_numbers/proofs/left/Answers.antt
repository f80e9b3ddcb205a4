use Prim.Native.Nat.{◌-◌, ◌^◌}
use mathlib.Core.Path.{◌≡◌, ap, sym, ◌∙◌}
use lib.Signed.{shr_z}
use mir.Facts.{to_z-of_z}
use mir.Syntax.{w64}
use mir.Val.{to_z, of_z}
use Rattle.whole_numbers.specs.Range.{inside}
use Rattle.whole_numbers.specs.Operators.{left_z}
use Rattle.std.specs.Prelude.{Some}
use Rattle.whole_numbers.proofs.Kept.{kept-is, refuses}
use Rattle.whole_numbers.proofs.Words.{alike, left-test, left_word}
use Rattle.whole_numbers.proofs.left.Goals.{Start}
use Rattle.whole_numbers.proofs.left.Goals as goal

-- what the test says of the whole number
tested : (c : Start) → alike (of_z w64 (shr_z (to_z w64 (of_z w64 c.args.a)) (2 ^ (63 - c.args.k))))
    ≡ inside (left_z c.args.a c.args.k)
tested c = rw (to_z-of_z c.ranges.a) (left-test c.args.a c.args.k c.requires c.ranges.a.sfits)

pub returns-then-top : goal.returns-then-top
returns-then-top c =
    let e = sym (tested (goal.at.returns-then-top c).Start) ∙ c.if-top.true in
    ap Some (left_word c.args.a c.args.k c.ranges.a.sfits e) ∙ kept-is _ e

pub returns : goal.returns
returns c = refuses _ (sym (tested (goal.at.returns c).Start) ∙ c.if-top.false)
