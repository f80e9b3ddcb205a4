use mir.Facts.{to_z-of_z}
use Rattle.fields.proofs.Values.{bits-some, value-small}
use Rattle.walk_steps.proofs.Writing.{unwritten}
use Rattle.walk_steps.proofs.put_number.Goals as goal

pub number-shown-requires : goal.number-shown-requires
number-shown-requires c =
    let some = bits-some _ c.requires.readable.0 in
    (some.0, some.1, rw c.value-value.ensures (value-small _ _ _))

pub returns-then-rows-eq-SCRATCH : goal.returns-then-rows-eq-SCRATCH
returns-then-rows-eq-SCRATCH c =
    rw (to_z-of_z (record { sfits = c.number-shown.type_inv }), c.number-shown.ensures, c.value-value.ensures, c.from.ensures) at c.put_row.ensures

pub returns-else-rows-eq-SCRATCH : goal.returns-else-rows-eq-SCRATCH
returns-else-rows-eq-SCRATCH c = unwritten _ _ _ c.if-rows-eq-SCRATCH.false
