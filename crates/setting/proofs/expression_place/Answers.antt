use Rattle.format.proofs.Lists.{expressions-length}
use Rattle.setting.specs.Fixed.{setting_in}
use Rattle.setting.proofs.expression_place.Goals as goal

pub expression_place-requires : goal.expression_place-requires
unfolding setting_in
expression_place-requires c = record { sections_in_bounds = c.requires.0.formed.room; i_lt_count = rw expressions-length at c.requires.1 }

pub returns : goal.returns
unfolding setting_in
returns c = c.expression_place.ensures
