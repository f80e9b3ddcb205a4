use Prim.Native.Nat.{◌+◌, ◌≤◌}
use native.Mathlib.Omega.{arith}
use mathlib.Core.Path.{refl}
use lib.ListN.{length}
use Rattle.text.specs.Text.{letters}
use Rattle.text.proofs.Writers.{appends-full, appends-wrote, end-within}
use Rattle.text.proofs.put_letters.Goals as goal

pub overflow_add-result : goal.overflow_add-result
overflow_add-result c =
    let within : c.args.at + c.in_ok-count.count ≤ length c.args.out.now =
    end-within _ _ c.args.out.now _ _ c.requires.at_in_bounds _ refl c.put_bytes.ensures _ c.in_ok-count.was in
    omega arith

pub returns-in_err-count : goal.returns-in_err-count
unfolding letters
returns-in_err-count c =
    let puts = rw c.letters-letters.ensures at c.put_bytes.ensures in
    rw c.from_residual.ensures (appends-full _ _ _ _ _ c.requires.at_in_bounds _ refl puts _ c.in_err-count.was)

pub returns : goal.returns
unfolding letters
returns c =
    let puts = rw c.letters-letters.ensures at c.put_bytes.ensures in
    appends-wrote _ _ _ _ _ c.requires.at_in_bounds _ refl puts _ c.in_ok-count.was
