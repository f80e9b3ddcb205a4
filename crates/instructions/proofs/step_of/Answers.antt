use mathlib.Core.Path.{sym, ap}
use Rattle.std.proofs.lemmas.Result.{err_from_is_err_and}
use Rattle.instructions.specs.Instructions.{stepped_as}
use Rattle.instructions.proofs.step_of.Goals as goal

-- `instructions::step_of` meets its contract. Assumes nothing.
pub returns-in_err-walk : goal.returns-in_err-walk
returns-in_err-walk c =
    let p = err_from_is_err_and c.from_residual.result c.from_residual.ensures.1 in
    rw (p.1, p.2) (sym (ap stepped_as c.in_err-walk.was))

pub returns : goal.returns
returns c = sym (ap stepped_as c.in_ok-walk.was)
