use Rattle.format.proofs.Lists.{fields-length}
use borrow.Author.Tests.{lt-ltb, le-ltb}
use Rattle.rules.proofs.field_fits.Goals as goal

pub returns-then-index-layout : goal.returns-then-index-layout
returns-then-index-layout c = rw (fields-length, lt-ltb _ _ c.if-index-layout.true, c.field_at-f.ensures)

pub returns-else-index-layout : goal.returns-else-index-layout
returns-else-index-layout c = rw (fields-length, le-ltb _ _ c.if-index-layout.false)
