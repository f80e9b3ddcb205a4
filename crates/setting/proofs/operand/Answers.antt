use Rattle.format.proofs.Lists.{operands-length}
use Rattle.setting.specs.Fixed.{setting_in}
use Rattle.setting.proofs.operand.Goals as goal

pub operand_at-requires : goal.operand_at-requires
unfolding setting_in
operand_at-requires c = record { sections_in_bounds = c.requires.0.formed.room; i_lt_count = rw operands-length at c.requires.1 }

pub returns : goal.returns
unfolding setting_in
returns c = c.operand_at.ensures
