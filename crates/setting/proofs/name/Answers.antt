use Rattle.format.proofs.Lists.{names-length}
use Rattle.setting.specs.Fixed.{setting_in}
use Rattle.setting.proofs.name.Goals as goal

pub name_at-requires : goal.name_at-requires
unfolding setting_in
name_at-requires c = record { sections_in_bounds = c.requires.0.formed.room; i_lt_count = rw names-length at c.requires.1 }

pub returns : goal.returns
unfolding setting_in
returns c = c.name_at.ensures
