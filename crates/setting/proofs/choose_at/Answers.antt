use mathlib.Core.Path.{◌∙◌}
use Rattle.setting.proofs.Laws.{obeyed-in, range_inside, chosen}
use Rattle.setting.proofs.choose_at.Goals as goal

-- `setting::choose_at` meets its contract. Assumes nothing.
pub choose_among-requires : goal.choose_among-requires
choose_among-requires c = let fixed = c.requires.0 in (fixed, range_inside _ (obeyed-in _ _ fixed) _ _ c.range_of-range.ensures)

pub returns : goal.returns
returns c =
    c.choose_among.ensures
    ∙ chosen _ (obeyed-in _ _ c.requires.0) _ _ c.range_of-range.ensures _ _
