use Rattle.clash_check.proofs.Pairs.{clash-same, clash-nested, clash-crossing}
use mathlib.Core.Path.{sym, ◌∙◌}
use Rattle.clash_check.proofs.crosses.Goals as goal

pub returns-then-same : goal.returns-then-same
returns-then-same c =
    clash-same _ _ _ _ _ _ c.requires.a_value c.requires.b_value (sym c.same.ensures ∙ c.if-same.true)

pub returns-then-lies_inside : goal.returns-then-lies_inside
returns-then-lies_inside c =
    clash-nested _ _ _ _ _ _ c.requires.a_value c.requires.b_value (sym c.same.ensures ∙ c.if-same.false)
    (rw (c.lies_inside.ensures, c.lies_inside-2.ensures) at c.if-lies_inside.true)

pub returns : goal.returns
returns c =
    clash-crossing _ _ _ _ _ _ c.requires.a_value c.requires.b_value c.requires.b_value_2 (sym c.same.ensures ∙ c.if-same.false)
    (rw (c.lies_inside.ensures, c.lies_inside-2.ensures) at c.if-lies_inside.false)
    c.has_third.result (rw c.joined-p.ensures at c.has_third.ensures)
