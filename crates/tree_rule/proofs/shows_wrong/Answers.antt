use Rattle.tree_rule.proofs.Meets.{refuted-apart, refuted-own}
use Rattle.tree_rule.specs.Rule.{refutes}
use mathlib.Core.Path.{sym, ◌∙◌}
use Rattle.tree_rule.proofs.shows_wrong.Goals as goal

pub returns-then-not-overlaps : goal.returns-then-not-overlaps
returns-then-not-overlaps c = refuted-apart _ _ _ _ (sym c.overlaps.ensures ∙ c.if-not-overlaps.true)

pub returns-then-own : goal.returns-then-own
returns-then-own c = rw (c.if-own.true, c.lies_inside.ensures) (refuted-own _ _ _)

pub returns-in-Some : goal.returns-in-Some
unfolding refutes
returns-in-Some c =
    rw (c.in-Some.is, c.if-own.false, ← c.overlaps.ensures, c.if-not-overlaps.false, c.lies_inside-in-Some.ensures, c.lies_inside-in-Some-2.ensures)

pub returns-in-None : goal.returns-in-None
unfolding refutes
returns-in-None c = rw (c.in-None.is, c.if-own.false, ← c.overlaps.ensures, c.if-not-overlaps.false)
