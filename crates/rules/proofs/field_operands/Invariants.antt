use Rattle.rules.proofs.FieldOperands.{Marking}
use Rattle.format.specs.Description.{description}
use Rattle.rules.proofs.field_operands.Given as goal

abbrev pub invariant-loop-o : goal.invariant-loop-o
invariant-loop-o l = Marking (description l.desc l.layout) l.fn.c l.word l.bit l.o
