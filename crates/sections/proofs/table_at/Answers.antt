use mathlib.Core.Path.{sym, ap}
use Rattle.format.proofs.Lists.{constructor-here}
use Rattle.sections.proofs.table_at.Goals as goal

pub returns : goal.returns
returns c = ap (λ r. r.table) (sym (constructor-here _ _ _ c.requires.i_lt_count))
