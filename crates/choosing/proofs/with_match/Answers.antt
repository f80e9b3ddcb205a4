use Rattle.choosing.proofs.Keeping.{with_match-inner, with_match-outer, with_match-first}
use mathlib.Core.Path.{sym, ◌∙◌}
use Rattle.choosing.proofs.with_match.Goals as goal

pub returns-in_default : goal.returns-in_default
returns-in_default c = with_match-first _ c.args.best c.args.j c.in_default.not-Some

pub returns-then-lies_inside : goal.returns-then-lies_inside
returns-then-lies_inside c =
    rw c.in-Some.is
    (with_match-inner _ c.in-Some.best c.args.j c.args.p c.pattern_in-q.result c.lies_inside-outer.result
    c.requires.p_value c.pattern_in-q.ensures c.lies_inside-outer.ensures (sym c.lies_inside.ensures ∙ c.if-lies_inside.true))

pub returns : goal.returns
returns c =
    rw c.in-Some.is
    (with_match-outer _ c.in-Some.best c.args.j c.args.p c.pattern_in-q.result c.lies_inside-outer.result
    c.requires.p_value c.pattern_in-q.ensures c.lies_inside-outer.ensures (sym c.lies_inside.ensures ∙ c.if-lies_inside.false))
