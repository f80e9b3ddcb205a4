use Rattle.tree_check.proofs.context_against.Goals as goal

pub returns-then-own : goal.returns-then-own
returns-then-own c = rw c.if-own.true c.filled_context.ensures

pub returns : goal.returns
returns c = rw c.if-own.false c.filled_context-2.ensures
