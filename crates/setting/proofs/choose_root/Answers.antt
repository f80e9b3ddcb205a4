use mathlib.Core.Path.{◌∙◌}
use Rattle.setting.proofs.Laws.{obeyed-in, range_inside, chosen}
use Rattle.setting.proofs.choose_root.Goals as goal

-- `setting::choose_root` meets its contract. Assumes nothing.
pub choose_among-requires : goal.choose_among-requires
choose_among-requires c = let fixed = c.requires in (fixed, range_inside _ (obeyed-in _ _ fixed) _ _ c.root_range-range.ensures)

pub returns : goal.returns
returns c =
    c.choose_among.ensures
    ∙ chosen _ (obeyed-in _ _ c.requires) _ _ c.root_range-range.ensures _ _
