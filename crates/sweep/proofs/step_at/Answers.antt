use mathlib.Core.Path.{sym, ◌∙◌}
use Rattle.sweep.proofs.Places.{row_step}
use Rattle.sweep.proofs.Turns.{still-told}
use Rattle.sweep.proofs.step_at.Goals as goal

-- `sweep::step_at` meets its contract. Assumes nothing.
pub returns-in-Ok : goal.returns-in-Ok
returns-in-Ok c =
    record {
      value = rw (sym c.is_multiple.ensures ∙ c.if-not-is_multiple.false)
          (row_step _ _ _ _ _ _ _ _ c.step_at.ensures.value _ c.in-Ok.is);
      still_fixed = still-told _ _ c.args.code.now c.args.at _ c.requires.0 c.step_at.ensures.fixed_after;
    }

pub returns-in-Err-clause-still_fixed : goal.returns-in-Err-clause-still_fixed
returns-in-Err-clause-still_fixed c =
    still-told _ _ c.args.code.now c.args.at _ c.requires.0 c.step_at.ensures.fixed_after
