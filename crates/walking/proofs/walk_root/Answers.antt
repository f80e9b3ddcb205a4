use native.Mathlib.Omega.{arith}
use Rattle.std.proofs.lemmas.Result.{err_from_is_err_and}
use Rattle.decoding_theorems.proofs.Taken.{takes}
use Rattle.setting.proofs.Laws.{obeyed-in}
use Rattle.walking.proofs.Turns.{was-taken, root-taken, root-refused, root-empty, root-done}
use Rattle.walking.proofs.walk_root.Goals as goal

-- `walking::walk_root` meets its contract. Assumes nothing.
pub walk_constructor-requires : goal.walk_constructor-requires
walk_constructor-requires c =
    let fixed = c.requires.fixed.0 in
    record {
      fixed = fixed;
      code = omega (arith, c.requires.fixed.1);
      close = omega arith;
      few = omega arith;
      own = record { within = (takes _ _ _ _ (obeyed-in _ _ fixed) _ (was-taken 0 _ _ _ c.requires.code_value)).within; near = omega arith; room = omega arith };
    }

pub returns-then-walk-eq0 : goal.returns-then-walk-eq0
returns-then-walk-eq0 c =
    root-empty _ _ _ _ _ _ (root-taken _ _ _ _ _ _ _ c.requires.code_value (rw c.from.ensures at c.walk_constructor.ensures)) _ _ c.in_ok-walk.was c.if-walk-eq0.true

pub returns-in_err-walk : goal.returns-in_err-walk
returns-in_err-walk c =
    let p = err_from_is_err_and c.from_residual.result c.from_residual.ensures.1 in
    rw (p.1, p.2) (root-refused _ _ _ _ _ _ (root-taken _ _ _ _ _ _ _ c.requires.code_value (rw c.from.ensures at c.walk_constructor.ensures)) _ c.in_err-walk.was)

pub returns : goal.returns
returns c =
    root-done _ _ _ _ _ _ (root-taken _ _ _ _ _ _ _ c.requires.code_value (rw c.from.ensures at c.walk_constructor.ensures)) _ _ c.in_ok-walk.was c.if-walk-eq0.false
