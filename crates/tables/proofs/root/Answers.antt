use Rattle.format.proofs.Lists.{constructors-length}
use Rattle.tables.proofs.root.Goals as goal

pub returns : goal.returns
returns c = rw constructors-length c.table_at.ensures
