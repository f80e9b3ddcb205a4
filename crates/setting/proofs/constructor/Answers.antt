use Rattle.format.proofs.Lists.{constructors-length}
use Rattle.setting.specs.Fixed.{setting_in}
use Rattle.setting.proofs.constructor.Goals as goal

pub constructor_at-requires : goal.constructor_at-requires
unfolding setting_in
constructor_at-requires c = record { sections_in_bounds = c.requires.0.formed.room; i_lt_count = rw constructors-length at c.requires.1 }

pub returns : goal.returns
unfolding setting_in
returns c = c.constructor_at.ensures
