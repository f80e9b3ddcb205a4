use mathlib.Core.Path.{sym, ap, ◌∙◌}
use Rattle.format.proofs.Lists.{constructor-here}
use Rattle.sections.proofs.pattern_of.Goals as goal

pub returns : goal.returns
returns c = c.pattern_at.ensures ∙ ap (λ r. r.pattern) (sym (constructor-here _ _ _ c.requires.i_lt_count))
