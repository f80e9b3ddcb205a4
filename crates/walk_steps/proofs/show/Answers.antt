use Prim.Native.Nat.{◌+◌}
use mathlib.Core.Path.{sym, ◌∙◌}
use native.Mathlib.Omega.{arith}
use mir.Facts.{to_z_pos}
use mir.Syntax.{w64}
use Rattle.fields.proofs.Values.{value-small}
use Rattle.decoding_theorems.proofs.Records.{narrow}
use Rattle.walk_steps.proofs.Steps.{shows-hole, shows-number, shows-name}
use Rattle.walk_steps.proofs.show.Goals as goal

pub overflow_add-name : goal.overflow_add-name
overflow_add-name c =
    omega (arith, c.value-value.ensures, narrow _ _ c.requires.1.readable (value-small c.args.field c.args.code.now c.args.state.context))

pub name-found-requires : goal.name-found-requires
name-found-requires c =
    (c.requires.0, rw (c.from.ensures, c.value-value.ensures) (c.requires.1.name (sym c.from-look.ensures ∙ c.in-Name.is)))

pub returns-then-found-eq0 : goal.returns-then-found-eq0
returns-then-found-eq0 c =
    shows-hole _ _ _ _ _ _ _ _ (sym c.from-look.ensures ∙ c.in-Name.is)
    (rw (c.from.ensures, c.value-value.ensures) at (rw c.name-found.ensures at c.if-found-eq0.true))

pub overflow_cast-name : goal.overflow_cast-name
overflow_cast-name c =
    record { sfits = omega (arith, c.from.ensures, c.value-value.ensures, narrow _ _ c.requires.1.readable (value-small c.args.field c.args.code.now c.args.state.context)) }

pub returns-in-Number : goal.returns-in-Number
returns-in-Number c =
    rw c.one_more.ensures
    (shows-number _ _ _ _ _ _ _ _ _ c.width_of-length.ensures.0 c.requires.1.room c.requires.1.near _ _ _
    (sym c.from-look.ensures ∙ c.in-Number.is) c.put_number.ensures)

pub returns-else-found-eq0 : goal.returns-else-found-eq0
returns-else-found-eq0 c =
    let name = c.from.result + c.value-value.result in
    let small = narrow _ _ c.requires.1.readable (value-small c.args.field c.args.code.now c.args.state.context) in
    rw c.one_more-in-Name.ensures
    (shows-name _ _ _ _ _ _ _ _ _ c.width_of-length.ensures.0 c.requires.1.room c.requires.1.near _
    (sym c.from-look.ensures ∙ c.in-Name.is)
    (rw (c.from.ensures, c.value-value.ensures) at (rw c.name-found.ensures at c.if-found-eq0.false))
    (rw (c.from.ensures, c.value-value.ensures) at (rw (to_z_pos w64 {n = name} (omega (arith, c.from.ensures, c.value-value.ensures, small)), c.from-in-Name.ensures) at c.put_row.ensures)))

pub overflow_cast-result : goal.overflow_cast-result
overflow_cast-result c = omega (arith, c.requires.1.near)
