use mathlib.Core.Path.{◌∙◌}
use Rattle.walking.proofs.choose_root.Goals as goal

-- `walking::choose_root` meets its contract. Assumes nothing.
pub returns : goal.returns
returns c = c.judge.ensures ∙ rw (c.root.ensures, c.choose_root-choice.ensures, c.from.ensures)
