use Prim.Native.Nat.{◌+◌, ◌≤◌}
use lib.ListN.{length}
use mathlib.Core.Path.{refl}
use native.Mathlib.Omega.{arith}
use mir.Facts.{to_z-of_z}
use Rattle.text.proofs.Writers.{appends-full, appends-wrote, end-within}
use Rattle.text.proofs.put_value.Goals as goal

pub overflow_add-result : goal.overflow_add-result
overflow_add-result c =
    let within : c.args.at + c.in_ok-count.count ≤ length c.args.out.now =
    end-within _ _ c.args.out.now _ _ c.requires _ refl c.put_number.ensures _ c.in_ok-count.was in
    omega arith

pub returns-in_err-count : goal.returns-in_err-count
returns-in_err-count c =
    rw c.from_residual.ensures
    (appends-full _ _ _ _ _ c.requires _ refl (rw (to_z-of_z c.ranges.value) at c.put_number.ensures) _ c.in_err-count.was)

pub returns : goal.returns
returns c =
    appends-wrote _ _ _ _ _ c.requires _ refl (rw (to_z-of_z c.ranges.value) at c.put_number.ensures) _ c.in_ok-count.was
