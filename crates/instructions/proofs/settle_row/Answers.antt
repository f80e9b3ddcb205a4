use mathlib.Core.Path.{◌≡◌, sym, ◌∙◌}
use native.Mathlib.Omega.{arith}
use mir.Facts.{to_z-of_z}
use Rattle.scratch_rows.specs.Places.{start_at}
use Rattle.scratch_rows.proofs.Standing.{kind-here}
use Rattle.instructions.proofs.Evaluating.{computed-small, settle-plain, settle-outside, settle_value}
use Rattle.instructions.proofs.settle_row.Goals as goal

pub returns-then-column-ne3 : goal.returns-then-column-ne3
returns-then-column-ne3 c =
    settle-plain _ _ _ c.args.rows.now c.args.row (λ e. c.if-column-ne3.true (kind-here _ c.args.row _ c.column.ensures ∙ e))

pub computed_at-requires : goal.computed_at-requires
computed_at-requires c =
    (c.requires, sym (kind-here _ c.args.row _ c.column.ensures) ∙ c.if-column-ne3.false)

pub overflow_cast-result : goal.overflow_cast-result
unfolding start_at
overflow_cast-result c =
    let place : c.column-place.result ≡ start_at c.args.rows.now c.args.row = c.column-place.ensures in
    omega (arith, place, (c.requires.readable.row _ c.requires.within).near)

pub returns-in_default : goal.returns-in_default
unfolding start_at
returns-in_default c =
    settle-outside _ _ _ c.args.rows.now c.args.row (sym (kind-here _ c.args.row _ c.column.ensures) ∙ c.if-column-ne3.false) _ c.computed_at.ensures c.in_default.is _ _ c.column-place.ensures

pub returns : goal.returns
returns c =
    let three = sym (kind-here _ c.args.row _ c.column.ensures) ∙ c.if-column-ne3.false in
    rw (to_z-of_z (record { sfits = computed-small _ _ c.args.rows.now c.args.used c.args.row c.requires three _ _ c.in-Some.value (sym c.computed_at.ensures ∙ c.in-Some.is) }))
    (settle_value _ _ _ c.args.rows.now c.args.row three _ c.computed_at.ensures _ c.in-Some.is)
