use Rattle.choosing_spec.specs.Table.{pattern_from}
use Rattle.choosing.proofs.row.Goals as goal

pub returns : goal.returns
unfolding pattern_from
returns c = c.pattern_of.ensures
