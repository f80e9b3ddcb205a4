use Rattle.setting.proofs.Laws.{obeyed-in}
use Rattle.text.specs.Text.{name_text}
use Rattle.text.proofs.Pieces.{name-inside}
use Rattle.text.proofs.put_name.Goals as goal

pub put_letters-requires : goal.put_letters-requires
put_letters-requires c =
    record { fixed = (c.requires.fixed.0, rw c.name-name.ensures (name-inside _ (obeyed-in _ _ c.requires.fixed.0) _ c.requires.fixed.1)); at_in_bounds = c.requires.at_in_bounds }

pub returns : goal.returns
unfolding name_text
returns c = rw c.name-name.ensures at c.put_letters.ensures
