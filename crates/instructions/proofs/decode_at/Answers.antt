use mathlib.Core.Path.{ap, ◌∙◌}
use Rattle.walking.specs.Walks.{instruction_as}
use Rattle.instructions.proofs.Ending.{none-computed}
use Rattle.instructions.proofs.decode_at.Goals as goal

-- `instructions::decode_at` meets its contract. Assumes nothing.
pub returns-then-fixed-eq0 : goal.returns-then-fixed-eq0
returns-then-fixed-eq0 c =
    record { rows_after = c.walk_at.ensures.rows_after ∙ ap instruction_as (none-computed _ c.args.fixed.now c.args.code.now c.args.at c.args.context c.args.address c.requires.0 c.if-fixed-eq0.true); fixed_after = c.walk_at.ensures.fixed_after }
