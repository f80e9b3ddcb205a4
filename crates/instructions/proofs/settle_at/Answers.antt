use mathlib.Core.Path.{◌∙◌}
use native.Mathlib.Omega.{arith}
use Rattle.instructions.proofs.Ending.{settleable, settles-all, told_fixed, told_same}
use Rattle.instructions.proofs.settle_at.Goals as goal

-- `instructions::settle_at` meets its contract. Assumes nothing.
pub settle_walk-requires : goal.settle_walk-requires
settle_walk-requires c =
    let told = c.walk_at-walked.ensures.fixed_after in (
      told_fixed _ c.args.fixed.now c.args.code.now c.args.at c.requires.0 _ told,
      omega arith,
      rw (told_same _ c.args.fixed.now c.args.code.now c.args.at c.requires.0 _ told) (settleable _ c.args.fixed.now c.args.code.now c.args.at c.args.context c.args.address c.requires.0 _ _ c.walk_at-walked.ensures.rows_after),
    )

pub returns : goal.returns
returns c =
    let told = c.walk_at-walked.ensures.fixed_after in record { rows_after = rw (told_same _ c.args.fixed.now c.args.code.now c.args.at c.requires.0 _ told, c.from.ensures) at c.settle_walk.ensures ∙ settles-all _ c.args.fixed.now c.args.code.now c.args.at c.args.context c.args.address c.requires.0 _ _ c.walk_at-walked.ensures.rows_after; fixed_after = told }
