use Rattle.tree_check.proofs.word_against.Goals as goal

pub returns-then-own : goal.returns-then-own
returns-then-own c = rw c.if-own.true c.filled_word.ensures

pub returns : goal.returns
returns c = rw c.if-own.false c.filled_word-2.ensures
