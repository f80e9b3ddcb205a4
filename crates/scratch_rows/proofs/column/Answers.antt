use mir.Facts.{to_z-of_z}
use Rattle.scratch_rows.proofs.column.Goals as goal

pub returns : goal.returns
returns c = rw (to_z-of_z (record { sfits = c.magnitude-arg-1.given })) at c.magnitude.ensures
