use Rattle.format.specs.Check.{fault_of, part_fault, last_fault}
use Rattle.format.proofs.Lists.{fields-length, names-length, constructors-length, operands-length, pieces-length, text-length, expressions-length}
use Rattle.validation.proofs.Judgement.{over, here, handed}
use Rattle.validation.proofs.first_fault.Goals as goal

pub returns-in_err-judge_fields : goal.returns-in_err-judge_fields
unfolding fault_of
returns-in_err-judge_fields c =
    rw (fields-length, here 1 _ _ _ c.in_err-judge_fields.ensures)
    (handed 1 _ _ _ c.in_err-judge_fields.ensures _ c.from_residual.ensures.1)

pub returns-in_err-judge_names : goal.returns-in_err-judge_names
unfolding fault_of
returns-in_err-judge_names c =
    rw (fields-length, over 1 _ _ c.in_ok-judge_fields.ensures, names-length, here 2 _ _ _ c.in_err-judge_names.ensures)
    (handed 2 _ _ _ c.in_err-judge_names.ensures _ c.from_residual-in_err-judge_names.ensures.1)

pub returns-in_err-judge_constructors : goal.returns-in_err-judge_constructors
unfolding fault_of
returns-in_err-judge_constructors c =
    rw (fields-length, over 1 _ _ c.in_ok-judge_fields.ensures, names-length, over 2 _ _ c.in_ok-judge_names.ensures, constructors-length, here 3 _ _ _ c.in_err-judge_constructors.ensures)
    (handed 3 _ _ _ c.in_err-judge_constructors.ensures _ c.from_residual-in_err-judge_constructors.ensures.1)

pub returns-in_err-judge_operands : goal.returns-in_err-judge_operands
unfolding fault_of part_fault
returns-in_err-judge_operands c =
    rw (fields-length, over 1 _ _ c.in_ok-judge_fields.ensures, names-length, over 2 _ _ c.in_ok-judge_names.ensures, constructors-length, over 3 _ _ c.in_ok-judge_constructors.ensures, operands-length, here 4 _ _ _ c.in_err-judge_operands.ensures)
    (handed 4 _ _ _ c.in_err-judge_operands.ensures _ c.from_residual-in_err-judge_operands.ensures.1)

pub returns-in_err-judge_pieces : goal.returns-in_err-judge_pieces
unfolding fault_of part_fault
returns-in_err-judge_pieces c =
    rw (fields-length, over 1 _ _ c.in_ok-judge_fields.ensures, names-length, over 2 _ _ c.in_ok-judge_names.ensures, constructors-length, over 3 _ _ c.in_ok-judge_constructors.ensures, operands-length, over 4 _ _ c.in_ok-judge_operands.ensures, pieces-length, here 5 _ _ _ c.in_err-judge_pieces.ensures)
    (handed 5 _ _ _ c.in_err-judge_pieces.ensures _ c.from_residual-in_err-judge_pieces.ensures.1)

pub returns-in_err-judge_text : goal.returns-in_err-judge_text
unfolding fault_of part_fault last_fault
returns-in_err-judge_text c =
    rw (fields-length, over 1 _ _ c.in_ok-judge_fields.ensures, names-length, over 2 _ _ c.in_ok-judge_names.ensures, constructors-length, over 3 _ _ c.in_ok-judge_constructors.ensures, operands-length, over 4 _ _ c.in_ok-judge_operands.ensures, pieces-length, over 5 _ _ c.in_ok-judge_pieces.ensures, text-length, here 6 _ _ _ c.in_err-judge_text.ensures)
    (handed 6 _ _ _ c.in_err-judge_text.ensures _ c.from_residual-in_err-judge_text.ensures.1)

pub returns-in_err-judge_expressions : goal.returns-in_err-judge_expressions
unfolding fault_of part_fault last_fault
returns-in_err-judge_expressions c =
    rw (fields-length, over 1 _ _ c.in_ok-judge_fields.ensures, names-length, over 2 _ _ c.in_ok-judge_names.ensures, constructors-length, over 3 _ _ c.in_ok-judge_constructors.ensures, operands-length, over 4 _ _ c.in_ok-judge_operands.ensures, pieces-length, over 5 _ _ c.in_ok-judge_pieces.ensures, text-length, over 6 _ _ c.in_ok-judge_text.ensures, expressions-length, here 7 _ _ _ c.in_err-judge_expressions.ensures)
    (handed 7 _ _ _ c.in_err-judge_expressions.ensures _ c.from_residual-in_err-judge_expressions.ensures.1)

pub returns : goal.returns
unfolding fault_of part_fault last_fault
returns c =
    rw (fields-length, over 1 _ _ c.in_ok-judge_fields.ensures, names-length, over 2 _ _ c.in_ok-judge_names.ensures, constructors-length, over 3 _ _ c.in_ok-judge_constructors.ensures, operands-length, over 4 _ _ c.in_ok-judge_operands.ensures, pieces-length, over 5 _ _ c.in_ok-judge_pieces.ensures, text-length, over 6 _ _ c.in_ok-judge_text.ensures, expressions-length, over 7 _ _ c.in_ok-judge_expressions.ensures)
