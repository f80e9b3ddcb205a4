use Prim.Native.Nat.{◌+◌, ◌≤◌}
use mathlib.Core.List.{List}
use native.Mathlib.Omega.{arith}
use Rattle.format.specs.Numbers.{longest}
use lib.IntN.{ℤ}
use Rattle.decoding_spec.specs.Instruction.{Valued}
use Rattle.setting.specs.Fixed.{setting_in}
use Rattle.std.specs.Prelude.{Ok}
use Rattle.std.proofs.lemmas.Result.{err_from_is_err_and}
use Rattle.instructions.specs.Settling.{settled_from}
use Rattle.instructions.specs.Instructions.{ReadableRows}
use Rattle.instructions.proofs.Ending.{settled-inside, settled-outside}
use Rattle.instructions.proofs.settle_walk.Goals.{In_ok-walk}
use Rattle.instructions.proofs.settle_walk.Goals as goal

-- `instructions::settle_walk` meets its contract. Assumes nothing.
-- the walk is done: its rows can be read, and it is short enough
ready : (c : In_ok-walk)
    → ReadableRows (setting_in c.args.desc.now c.args.fixed.now).description c.args.rows.now c.in_ok-walk.walk.state.used
    × (c.in_ok-walk.walk.length ≤ longest)
ready c = rw c.in_ok-walk.was at c.requires.2

-- the rows with their values
abbrev values : In_ok-walk → Valued (List ℤ)
values c =
    let length = c.in_ok-walk.walk.length in
    settled_from (setting_in c.args.desc.now c.args.fixed.now).description c.args.here (c.args.here + length) c.args.rows.now 0
    c.in_ok-walk.walk.state.used

pub returns-in_err-walk : goal.returns-in_err-walk
returns-in_err-walk c =
    let p = err_from_is_err_and c.from_residual.result c.from_residual.ensures.1 in
    rw (p.1, p.2, c.in_err-walk.was)

pub overflow_add-after : goal.overflow_add-after
overflow_add-after c = omega (arith, (ready (goal.at.overflow_add-after c).In_ok-walk).1, c.requires.1)

pub settle-settled-requires : goal.settle-settled-requires
settle-settled-requires c = (c.requires.0, (ready (goal.at.settle-settled-requires c).In_ok-walk).0)

pub returns-in-Ok : goal.returns-in-Ok
returns-in-Ok c =
    rw c.in_ok-walk.was
    (settled-inside (values (goal.at.returns-in-Ok c).In_ok-walk) (Ok c.in_ok-walk.walk) c.settle-settled.result c.settle-settled.new.rows
    c.settle-settled.ensures c.in-Ok.is)

pub returns-in-Err : goal.returns-in-Err
returns-in-Err c =
    rw c.in_ok-walk.was
    (settled-outside (values (goal.at.returns-in-Err c).In_ok-walk) (Ok c.in_ok-walk.walk) c.settle-settled.result c.settle-settled.new.rows
    c.settle-settled.ensures _ c.in-Err.is)
