use Rattle.format.proofs.Formation.{obeyed}
use Rattle.format.proofs.Lists.{constructors-length}
use Rattle.tables.proofs.Range.{absent, there, in-section}
use Rattle.tree_check.proofs.tree_in.Goals as goal

pub returns-then-table-eq0 : goal.returns-then-table-eq0
returns-then-table-eq0 c =
    rw (absent _ (obeyed _ _ c.requires) _ _ _ c.table_of-table.ensures.first_value c.table_of-table.ensures.count_value c.if-table-eq0.true)

pub tree_for-requires : goal.tree_for-requires
tree_for-requires c =
    record { well_formed = c.requires; count_bound = rw constructors-length at (in-section _ (obeyed _ _ c.requires) _ _ _ c.table_of-table.ensures.first_value c.table_of-table.ensures.count_value) }

pub returns : goal.returns
returns c =
    rw (there _ (obeyed _ _ c.requires) _ _ _ c.table_of-table.ensures.first_value c.table_of-table.ensures.count_value c.if-table-eq0.false)
    (rw (c.table_of-table.ensures.first_value, c.table_of-table.ensures.count_value) at c.tree_for.ensures)
