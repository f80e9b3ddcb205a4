use Prim.Native.Nat.{◌+◌, ◌-◌}
use mathlib.Core.Path.{◌≡◌, sym, ◌∙◌}
use native.Mathlib.Omega.{arith}
use Rattle.scratch_rows.specs.Places.{size_at}
use Rattle.text.proofs.RowSteps.{skip-on, skip-one, skip-none}
use Rattle.text.proofs.row_behind.Goals as goal

pub overflow_mul-row : goal.overflow_mul-row
overflow_mul-row c = omega (arith, skip-on c.args.rows.now c.loop.row (c.args.parts - c.loop.counter), c.loop.invariant)

pub overflow_add-row : goal.overflow_add-row
overflow_add-row c = omega (arith, skip-on c.args.rows.now c.loop.row (c.args.parts - c.loop.counter), c.loop.invariant)

pub column-row-requires : goal.column-row-requires
column-row-requires c = omega (arith, skip-on c.args.rows.now c.loop.row (c.args.parts - c.loop.counter), c.loop.invariant)

pub overflow_add-row-in-loop : goal.overflow_add-row-in-loop
unfolding size_at
overflow_add-row-in-loop c =
    let rows = c.args.rows.now in
    let row = c.loop.row in
    let left = c.args.parts - c.loop.counter in
    let e : c.column-row.result ≡ size_at rows row = c.column-row.ensures in
    omega (arith, e, skip-on rows (row + size_at rows row) (left - 1), skip-one rows row left (omega arith), c.loop.invariant)

pub loop-preserved : goal.loop-preserved
unfolding size_at
loop-preserved c =
    let left = c.args.parts - c.loop.counter in
    let e : c.args.parts - (c.loop.counter + 1) ≡ left - 1 = omega arith in
    rw (e, c.column-row.ensures) (sym (skip-one c.args.rows.now c.loop.row left (omega arith)) ∙ c.loop.invariant)

pub returns : goal.returns
returns c = sym (skip-none c.args.rows.now c.loop.row (c.args.parts - c.loop.counter) (omega arith)) ∙ c.loop.invariant
