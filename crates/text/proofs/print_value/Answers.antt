use mathlib.Core.Path.{sym, ◌∙◌}
use native.Mathlib.Omega.{arith}
use mir.Facts.{to_z-of_z}
use Rattle.scratch_rows.specs.Places.{number_at, last_at}
use Rattle.text.proofs.Parts.{part-number, part-computed, part-name}
use Rattle.text.proofs.print_value.Goals as goal

pub put_field-requires : goal.put_field-requires
unfolding number_at
put_field-requires c =
    let low = c.requires.printable.sound.fields _ c.requires.printable.row (sym c.requires.value_row.is ∙ c.if-kind-eq1.true) in
    record { fixed = (c.requires.printable.fixed, rw c.column-index.ensures low); at_in_bounds = c.requires.printable.place }

pub returns-then-kind-eq1 : goal.returns-then-kind-eq1
unfolding number_at last_at
returns-then-kind-eq1 c =
    part-number _ _ _ (omega (arith, c.requires.printable.sound.few)) _ _ _ _ (sym c.requires.value_row.is ∙ c.if-kind-eq1.true)
    (rw (to_z-of_z (record { sfits = c.put_field-arg-1.given }), c.column-index.ensures) at c.put_field.ensures)

pub returns-then-kind-eq3 : goal.returns-then-kind-eq3
unfolding last_at
returns-then-kind-eq3 c =
    part-computed _ _ _ (omega (arith, c.requires.printable.sound.few)) _ _ _ _ (sym c.requires.value_row.is ∙ c.if-kind-eq3.true)
    (rw (to_z-of_z (record { sfits = c.put_value-arg-1.given })) at c.put_value.ensures)

pub put_name-requires : goal.put_name-requires
unfolding last_at
put_name-requires c =
    let is = c.requires.value_row.is in
    let low = c.requires.printable.sound.names _ c.requires.printable.row (λ e. c.requires.value_row.other (is ∙ e)) (λ e. c.if-kind-eq1.false (is ∙ e)) (λ e. c.if-kind-eq3.false (is ∙ e)) in
    record { fixed = (c.requires.printable.fixed, rw c.column.ensures low); at_in_bounds = c.requires.printable.place }

pub returns : goal.returns
unfolding last_at
returns c =
    let is = c.requires.value_row.is in
    part-name _ _ _ (omega (arith, c.requires.printable.sound.few)) _ _ _ _ (λ e. c.requires.value_row.other (is ∙ e)) (λ e. c.if-kind-eq1.false (is ∙ e)) (λ e. c.if-kind-eq3.false (is ∙ e))
    (rw c.column.ensures at c.put_name.ensures)
