use Rattle.format.proofs.Lists.{operands-length, pieces-length}
use Rattle.format.specs.Rules.{shape_ok}
use Rattle.rules.proofs.shape_ok.Goals as goal

pub returns : goal.returns
unfolding shape_ok
returns c =
    rw (operands-length, pieces-length, ← c.table_ok.ensures, ← c.minimum_ok.ensures, ← c.value_ok.ensures, ← c.range_ok.ensures, ← c.range_ok-2.ensures)
