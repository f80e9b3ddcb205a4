use native.Mathlib.Omega.{arith}
use lib.Dec.{lit<}
use borrow.Author.Tests.{eq-eqb, ne_eqb}
use Rattle.walk_steps.proofs.width_of.Goals as goal

pub returns-then-field-eq0 : goal.returns-then-field-eq0
returns-then-field-eq0 c = (rw (eq-eqb _ _ c.if-field-eq0.true) c.from.ensures, omega arith)

pub returns : goal.returns
returns c = (rw (ne_eqb _ _ c.if-field-eq0.false), lit< tt)
