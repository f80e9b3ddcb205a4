use mathlib.Core.Path.{◌∙◌}
use native.Mathlib.Omega.{arith}
use Rattle.scratch_rows.specs.Places.{number_at}
use Rattle.instructions.proofs.Gathering.{owner-low}
use Rattle.instructions.proofs.Evaluating.{index-inside, usable_at, computed-is}
use Rattle.instructions.proofs.computed_at.Goals as goal

pub counts_at-counts-requires : goal.counts_at-counts-requires
counts_at-counts-requires c =
    record {
      fixed = c.requires.0.fixed;
      readable = c.requires.0.readable;
      within = omega (arith, c.owner_of-owner.ensures, owner-low c.args.rows.now c.args.row c.args.row, c.requires.0.within);
    }

pub expression_place-place-requires : goal.expression_place-place-requires
unfolding number_at
expression_place-place-requires c =
    (c.requires.0.fixed, rw (← c.column-index.ensures) at (index-inside _ _ c.args.rows.now c.args.used c.args.row c.requires.0 c.requires.1))

pub evaluate-requires : goal.evaluate-requires
unfolding number_at
evaluate-requires c =
    usable_at _ _ c.args.rows.now c.args.used c.args.row c.requires.0 c.requires.1 _ (rw c.column-index.ensures at c.expression_place-place.ensures) _ _ c.counts_at-counts.ensures

pub returns : goal.returns
unfolding number_at
returns c =
    c.evaluate.ensures
    ∙ computed-is _ _ c.args.rows.now c.args.used c.args.row c.requires.0 c.requires.1 _ (rw c.column-index.ensures at c.expression_place-place.ensures) _ _ c.counts_at-counts.ensures _ _ c.owner_of-owner.ensures
