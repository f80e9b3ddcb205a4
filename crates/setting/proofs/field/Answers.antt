use Rattle.format.proofs.Lists.{fields-length}
use Rattle.setting.specs.Fixed.{setting_in}
use Rattle.setting.proofs.field.Goals as goal

pub field_at-requires : goal.field_at-requires
unfolding setting_in
field_at-requires c = record { sections_in_bounds = c.requires.0.formed.room; i_lt_count = rw fields-length at c.requires.1 }

pub returns : goal.returns
unfolding setting_in
returns c = c.field_at.ensures
