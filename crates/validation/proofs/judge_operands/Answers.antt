use Rattle.std.proofs.Common.{rules}
use Rattle.format.proofs.Lists.{expressions-length}
use Rattle.format.specs.Description.{no_operand, fields_of, operands_of}
use Rattle.format.specs.Rules.{operand_ok}
use Rattle.format.specs.Check.{bad_operand}
use Rattle.validation.proofs.judge_operands.Goals as goal

pub returns : goal.returns
unfolding bad_operand operands_of
returns c =
    rw expressions-length
    (c.judge.ensures (λ _. operand_ok (fields_of c.args.desc.now c.args.layout) c.args.layout.expressions.count) no_operand (λ i r h p. search rules))
