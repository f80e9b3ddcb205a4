use mathlib.Core.List.{◌++◌}
use mathlib.Core.Path.{◌≡◌, ◌∙◌}
use native.Mathlib.Omega.{arith}
use lib.IntN.{nat_abs}
use mir.Facts.{to_z-of_z}
use mir.Syntax.{w64}
use Rattle.printing.specs.Numerals.{base_number, digits_of, prefix_text, number_text}
use Rattle.printing.proofs.Numerals.{digits-length, unsigned-length}
use Rattle.printing.proofs.Signs.{number-below, number-unsigned}
use Rattle.printing.proofs.put_number.Goals.{After-put_prefix, Joined-value-lt0, then-value-lt0, else-value-lt0}
use Rattle.printing.proofs.put_number.Goals as goal

pub put_prefix-requires : goal.put_prefix-requires
put_prefix-requires c = rw c.of-numeral.ensures (omega (arith, digits-length (base_number c.args.base) c.magnitude.result))

-- the numeral without its sign
prefixed : (c : After-put_prefix)
    → c.put_prefix.new.self ≡ prefix_text (base_number c.args.base) ++ digits_of (base_number c.args.base) (nat_abs c.args.value)
prefixed c = rw (c.of-numeral.ensures, c.magnitude.ensures, to_z-of_z {w = w64} c.ranges.value) at c.put_prefix.ensures

pub put_before-requires : goal.put_before-requires
put_before-requires c =
    rw (prefixed (goal.at.put_before-requires c).After-put_prefix) (omega (arith, unsigned-length (base_number c.args.base) (nat_abs c.args.value)))

-- and with it
whole : (c : Joined-value-lt0) → c.if-value-lt0.numeral ≡ number_text (base_number c.args.base) c.args.value
whole c =
    let back = to_z-of_z {w = w64} c.ranges.value in
    let p = rw (c.of-numeral.ensures, c.magnitude.ensures, back) at c.put_prefix.ensures in
    elim c.if-value-lt0.branch [
      | then-value-lt0 w ↦ rw (number-below (base_number c.args.base) c.args.value (rw back at w.if-value-lt0.true)) (w.numeral-is ∙ rw p at w.put_before.ensures)
      | else-value-lt0 w ↦ rw (number-unsigned (base_number c.args.base) c.args.value (rw back at w.if-value-lt0.false)) (w.numeral-is ∙ p)
    ]

pub returns : goal.returns
returns c = rw (c.bytes.ensures, whole (goal.at.returns c).Joined-value-lt0) at c.put_bytes.ensures
