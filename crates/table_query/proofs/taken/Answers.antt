use Rattle.choosing_spec.specs.Table.{pattern_from}
use Rattle.table_query.proofs.taken.Goals as goal

pub returns : goal.returns
unfolding pattern_from
returns c = rw (c.weight_of.ensures, c.pattern_of-p.ensures)
