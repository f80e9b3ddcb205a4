use mathlib.Core.Path.{ap, ◌∙◌}
use Rattle.walk_steps.specs.Steps.{answer_of}
use Rattle.walking.specs.Walks.{Instruction}
use Rattle.instructions.specs.Instructions.{result_at, stepped_as}
use Rattle.instructions.proofs.Ending.{walked-of, none-computed}
use Rattle.instructions.proofs.step_at.Goals as goal

-- `instructions::step_at` meets its contract. Assumes nothing.
pub returns-then-fixed-eq0 : goal.returns-then-fixed-eq0
returns-then-fixed-eq0 c =
    record {
      value = c.step_of.ensures
          ∙ ap stepped_as (c.step_at.ensures.value ∙ ap answer_of (none-computed _ c.args.fixed.now c.args.code.now c.args.at c.args.context c.args.address c.requires.0 c.if-fixed-eq0.true));
      fixed_after = c.step_at.ensures.fixed_after;
    }

pub returns : goal.returns
returns c =
    let result = result_at c.args.desc.now c.args.fixed.now c.args.code.now c.args.at c.args.context c.args.address in
    record { value = c.step_of-2.ensures ∙ ap stepped_as (ap (λ (i : Instruction). i.walked) c.settle_at.ensures.rows_after ∙ walked-of result); fixed_after = c.settle_at.ensures.fixed_after }
