use Rattle.format.proofs.Lists.{pieces-length}
use Rattle.setting.specs.Fixed.{setting_in}
use Rattle.setting.proofs.piece.Goals as goal

pub piece_at-requires : goal.piece_at-requires
unfolding setting_in
piece_at-requires c = record { sections_in_bounds = c.requires.0.formed.room; i_lt_count = rw pieces-length at c.requires.1 }

pub returns : goal.returns
unfolding setting_in
returns c = c.piece_at.ensures
