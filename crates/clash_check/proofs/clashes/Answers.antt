use Rattle.clash_check.proofs.Pairs.{clash-apart}
use mathlib.Core.Path.{sym, ◌∙◌}
use Rattle.clash_check.proofs.clashes.Goals as goal

pub returns : goal.returns
returns c = clash-apart _ _ _ _ _ _ c.requires.a_value c.requires.b_value (sym c.overlaps.ensures ∙ c.if-overlaps.false)
