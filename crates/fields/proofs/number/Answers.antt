use mir.Facts.{to_z-of_z, to_z_pos}
use mir.Syntax.{w64}
use Rattle.fields.proofs.Signs.{value-fits, number_is, less-power, less-fits}
use Rattle.fields.proofs.number.Goals as goal

pub returns-then-signed-value : goal.returns-then-signed-value
returns-then-signed-value c =
    rw (
      less-power c.args.bits c.args.value c.requires.1 c.requires.2,
      to_z-of_z {w = w64} (less-fits c.args.bits c.args.value c.requires.1 c.requires.2),
      number_is c.args.signed c.args.bits c.args.value c.requires.0 c.requires.2,
      c.if-signed-value.true,
    )

pub returns : goal.returns
returns c =
    rw (
      number_is c.args.signed c.args.bits c.args.value c.requires.0 c.requires.2,
      c.if-signed-value.false,
      to_z_pos w64 (value-fits c.args.bits c.args.value c.requires.1 c.requires.2),
    )
