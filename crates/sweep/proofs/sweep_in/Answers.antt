use Prim.Native.Nat.{◌-◌, ◌/◌, ◌^◌, ◌<◌}
use mathlib.Core.Path.{◌≡◌, sym, ◌∙◌}
use native.Mathlib.Omega.{arith}
use lib.ListN.{length}
use Rattle.alignment.proofs.Laws.{alignment-some}
use Rattle.format.specs.Numbers.{sweep_numbers}
use Rattle.setting.specs.Fixed.{setting_in}
use Rattle.sweep.specs.Sweep.{end_at, sweep_from}
use Rattle.sweep.specs.Buffer.{OutcomeIn}
use Rattle.sweep.specs.declared.End.{End}
use Rattle.sweep.proofs.Places.{Fits}
use Rattle.sweep.proofs.Turns.{first-turn, next-turn, row_fits, step-here, fixed-here, outcome-in, swept, long, used-up, no_room, stops}
use Rattle.sweep.proofs.sweep_in.Goals.{At-loop-at, In-Some}
use Rattle.sweep.proofs.sweep_in.Goals as goal

pub loop-at-init : goal.loop-at-init
loop-at-init c = first-turn _ _ _ _ _ _ _ _ (fixed-here _ _ _ c.fill-fixed.ensures c.requires.0) (omega arith)

-- the loop ends so
ended : (c : At-loop-at) (why : End)
    → let start = c.args in
    sweep_from (setting_in start.desc.now c.fill-fixed.result).description start.context start.address start.alignment start.code.now (length start.rows.now / sweep_numbers - c.loop-at.n) c.loop-at.at ≡ end_at why c.loop-at.at
    → OutcomeIn start.desc.now start.layout start.context start.address start.alignment start.code.now start.rows.now (record { why = why; rows = c.loop-at.n; next = c.loop-at.at }) c.loop-at.rows
ended c why e = outcome-in _ _ _ c.fill-fixed.ensures _ _ _ _ _ _ _ (swept _ _ _ _ _ _ _ _ _ _ c.loop-at.invariant.progress why e)

pub returns-then-n-room : goal.returns-then-n-room
returns-then-n-room c = ended (goal.at.returns-then-n-room c).At-loop-at _ (no_room _ _ _ _ _ _ _ c.loop-at-test.true (omega arith))

pub returns-in_default : goal.returns-in_default
returns-in_default c =
    let turn = c.loop-at.invariant in
    ended (goal.at.returns-in_default c).At-loop-at _
    (stops _ _ _ _ _ _ _ c.loop-at-test.true (omega (arith, c.if-n-room.false, turn.progress.few))
    (sym (step-here _ _ _ _ _ _ _ _ _ _ _ _ turn) ∙ sym c.step_at-found.ensures.value ∙ c.in_default.is))

-- the alignment is one
some-alignment : (c : At-loop-at) → 0 < c.args.alignment
some-alignment c = alignment-some c.args.alignment c.requires.1

-- the row that was found fits
fits : (c : In-Some)
    → Fits c.args.code.now c.loop-at.at c.in-Some.row.length c.in-Some.row.constructor
fits c =
    row_fits _ _ _ _ _ _ _ _ _ _ _ _ c.loop-at.invariant (alignment-some c.args.alignment c.requires.1) _ _ _ (sym c.step_at-found.ensures.value ∙ c.in-Some.is) c.loop-at-test.true

-- the code and the lent rows fit the memory
bytes_fit : (c : At-loop-at) → length c.args.code.now < 2 ^ 63
bytes_fit c = let z = c.well_formed.1.1.1.1.1.0 in omega arith

rows_fit : (c : At-loop-at) → length c.args.rows.now < 2 ^ 63
rows_fit c = let z = c.well_formed.1.1.1.1.1.1 in omega arith

pub put_row-requires : goal.put_row-requires
put_row-requires c =
    let short = bytes_fit (goal.at.put_row-requires c).At-loop-at in
    let f = fits (goal.at.put_row-requires c).In-Some in
    let turn = c.loop-at.invariant.progress in record { i_in_bounds = omega (arith, long _ _ _ _ _ _ _ _ _ _ turn, turn.lent, turn.few, c.if-n-room.false); start_bound = (omega (arith, turn.inside, short), omega (arith, f.here, short), omega (arith, f.small)) }

pub overflow_add-at : goal.overflow_add-at
overflow_add-at c =
    omega (arith, (fits (goal.at.overflow_add-at c).In-Some).here, bytes_fit (goal.at.overflow_add-at c).At-loop-at)

pub loop-at-smaller : goal.loop-at-smaller
loop-at-smaller c = let f = fits (goal.at.loop-at-smaller c).In-Some in omega (arith, f.some, f.here)

pub loop-at-preserved : goal.loop-at-preserved
loop-at-preserved c =
    let step = c.step_at-found in
    let turn = c.loop-at.invariant in
    next-turn _ _ _ _ _ _ _ _ _ _ _ _ turn (some-alignment (goal.at.loop-at-preserved c).At-loop-at) _ _ _ (sym step.ensures.value ∙ c.in-Some.is) c.loop-at-test.true _ _
    (omega (arith, turn.progress.few, c.if-n-room.false)) step.ensures.still_fixed c.put_row.ensures

pub returns : goal.returns
returns c = ended (goal.at.returns c).At-loop-at _ (used-up _ _ _ _ _ _ _ c.loop-at-test.false)
