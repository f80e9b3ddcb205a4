use mathlib.Core.Path.{sym, ap, ◌∙◌}
use native.Mathlib.Omega.{arith}
use lib.IntN.{pos}
use mir.Facts.{to_z-of_z, to_z_pos}
use mir.Syntax.{w64}
use Rattle.scratch_rows.specs.Places.{number_at, last_at}
use Rattle.scratch_rows.proofs.Standing.{kind-here}
use Rattle.instructions.proofs.Gathering.{count-number, count-name, count_none, small-name}
use Rattle.instructions.proofs.count_at.Goals as goal

pub returns-then-kind-eq1 : goal.returns-then-kind-eq1
unfolding last_at
returns-then-kind-eq1 c =
    to_z-of_z {w = w64} (record { sfits = c.result-1.given }) ∙ count-number _ c.args.rows.now c.args.row (sym (kind-here _ c.args.row _ c.column-kind.ensures) ∙ c.if-kind-eq1.true)

pub field-field-requires : goal.field-field-requires
unfolding number_at
field-field-requires c =
    let row = c.requires.readable.row _ c.requires.within in
    (c.requires.fixed, rw (← c.column-index.ensures) at (row.field (sym (kind-here _ c.args.row _ c.column-kind.ensures) ∙ c.if-kind-eq2.true)))

pub overflow_cast-result : goal.overflow_cast-result
unfolding last_at
overflow_cast-result c =
    let row = c.requires.readable.row _ c.requires.within in
    let last = row.name (sym (kind-here _ c.args.row _ c.column-kind.ensures) ∙ c.if-kind-eq2.true) in
    record { sfits = omega (arith, c.saturating_sub.ensures, rw (to_z-of_z {w = w64} (record { sfits = c.magnitude-arg-1.given })) at c.magnitude-name.ensures, small-name c.args.rows.now c.args.row last c.magnitude-arg-1.given) }

pub returns-then-kind-eq2 : goal.returns-then-kind-eq2
unfolding number_at last_at
returns-then-kind-eq2 c =
    let row = c.requires.readable.row _ c.requires.within in
    let two = sym (kind-here _ c.args.row _ c.column-kind.ensures) ∙ c.if-kind-eq2.true in
    let name = rw (to_z-of_z {w = w64} (record { sfits = c.magnitude-arg-1.given })) at c.magnitude-name.ensures in
    let small = small-name c.args.rows.now c.args.row (row.name two) c.magnitude-arg-1.given in
    to_z_pos w64 {n = c.saturating_sub.result} (omega (arith, c.saturating_sub.ensures, name, small))
    ∙ ap pos c.saturating_sub.ensures
    ∙ rw (name, c.from.ensures, c.field-field.ensures, c.column-index.ensures)
    (count-name _ c.args.rows.now c.args.row two)

pub returns : goal.returns
returns c =
    let kind = kind-here _ c.args.row _ c.column-kind.ensures in
    count_none _ c.args.rows.now c.args.row (λ e. c.if-kind-eq1.false (kind ∙ e)) (λ e. c.if-kind-eq2.false (kind ∙ e))
