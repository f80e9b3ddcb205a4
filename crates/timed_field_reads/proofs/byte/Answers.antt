use mathlib.Core.Path.{◌∙◌}
use native.Mathlib.Omega.{arith}
use Rattle.timed_field_reads.proofs.ByBytes.{little_byte, big-byte}
use Rattle.timed_field_reads.proofs.byte.Goals.{then-field-eq0, else-field-eq0}
use Rattle.timed_field_reads.proofs.byte.Goals as goal

pub returns : goal.returns
returns c = (
  c.from-2.ensures
      ∙ rw c.from.ensures (elim c.if-field-eq0.branch [
        | then-field-eq0 w ↦ rw w.k-is (little_byte c.args.field c.args.code.now c.args.j w.if-field-eq0.true)
        | else-field-eq0 w ↦ rw w.k-is (big-byte c.args.field c.args.code.now c.args.j w.if-field-eq0.false)
      ]),
  omega (arith, c.from-2.ensures, c.type_inv.code c.from.result),
)
