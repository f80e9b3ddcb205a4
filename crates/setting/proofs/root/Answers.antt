use Rattle.setting.specs.Fixed.{setting_in}
use Rattle.setting.proofs.root.Goals as goal

pub root-requires : goal.root-requires
root-requires c = c.requires.formed.room

pub returns : goal.returns
unfolding setting_in
returns c = c.root.ensures
