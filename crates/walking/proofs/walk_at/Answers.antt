use mathlib.Core.Path.{refl, sym, ◌∙◌}
use Rattle.std.proofs.lemmas.Result.{err_from_is_err_and}
use Rattle.walking.proofs.Places.{root-ready, walk_refused, zeros-left, rows-left}
use Rattle.walking.proofs.Turns.{root-unchosen}
use Rattle.walking.proofs.walk_at.Goals as goal

-- `walking::walk_at` meets its contract. Assumes nothing.
pub choose_root-requires : goal.choose_root-requires
choose_root-requires c =
    (root-ready _ c.args.fixed.now c.args.code.now c.args.at 0 c.requires.0).0

pub walk_root-walked-requires : goal.walk_root-walked-requires
walk_root-walked-requires c =
    record { fixed = root-ready _ c.args.fixed.now c.args.code.now c.args.at 0 c.requires.0; code_value = sym c.in_ok-number.ensures }

pub returns-in_err-number : goal.returns-in_err-number
returns-in_err-number c =
    let p = err_from_is_err_and c.from_residual.result c.from_residual.ensures.1 in
    record { rows_after = rw (p.1, p.2, c.requires.2) (walk_refused _ c.args.fixed.now c.args.code.now c.args.at _ _ _ _ (root-unchosen _ _ _ c.args.rows.now _ (sym c.in_err-number.ensures)) _ refl); fixed_after = refl }

pub returns-then-is_err : goal.returns-then-is_err
returns-then-is_err c =
    record { rows_after = zeros-left _ c.args.fixed.now c.args.code.now c.args.at _ _ _ _ c.walk_root-walked.ensures (sym c.is_err.ensures.value ∙ c.if-is_err.true); fixed_after = refl }

pub returns-else-is_err : goal.returns-else-is_err
returns-else-is_err c =
    record { rows_after = rows-left _ c.args.fixed.now c.args.code.now c.args.at _ _ _ _ c.walk_root-walked.ensures (sym c.is_err.ensures.value ∙ c.if-is_err.false) c.requires.2; fixed_after = refl }
