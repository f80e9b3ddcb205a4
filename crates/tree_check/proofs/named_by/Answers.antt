use borrow.Author.Tests.{eq-eqb, ne_eqb}
use Rattle.tree_check.proofs.named_by.Goals as goal

pub returns-then-v-eq-NO_PLACE : goal.returns-then-v-eq-NO_PLACE
returns-then-v-eq-NO_PLACE c = rw (eq-eqb _ _ c.if-v-eq-NO_PLACE.true)

pub returns : goal.returns
returns c = rw (ne_eqb _ _ c.if-v-eq-NO_PLACE.false, c.row.ensures)
