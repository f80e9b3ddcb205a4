use mathlib.Core.List.{[]}
use mathlib.Core.Path.{refl, sym}
use Rattle.std.proofs.lemmas.Result.{err_from_is_err_and}
use Rattle.walking.proofs.Places.{root-ready, step-here}
use Rattle.walking.proofs.Turns.{root-unchosen}
use Rattle.walking.proofs.step_at.Goals as goal

-- `walking::step_at` meets its contract. Assumes nothing.
pub choose_root-requires : goal.choose_root-requires
choose_root-requires c =
    (root-ready _ c.args.fixed.now c.args.code.now c.args.at 0 c.requires.0).0

pub walk_root-requires : goal.walk_root-requires
walk_root-requires c =
    record { fixed = root-ready _ c.args.fixed.now c.args.code.now c.args.at 0 c.requires.0; code_value = sym c.in_ok-number.ensures }

pub returns-in_err-number : goal.returns-in_err-number
returns-in_err-number c =
    let p = err_from_is_err_and c.from_residual.result c.from_residual.ensures.1 in
    record { value = rw (p.1, p.2) (step-here _ c.args.fixed.now c.args.code.now c.args.at _ _ _ _ (root-unchosen _ _ _ [] _ (sym c.in_err-number.ensures))); fixed_after = refl }

pub returns : goal.returns
returns c =
    record { value = step-here _ c.args.fixed.now c.args.code.now c.args.at _ _ _ _ c.walk_root.ensures; fixed_after = refl }
