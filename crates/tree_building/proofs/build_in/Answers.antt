use Rattle.tree_building.specs.Building.{outcome_in}
use Rattle.format.proofs.Formation.{obeyed}
use Rattle.format.proofs.Lists.{constructors-length}
use Rattle.tables.proofs.Range.{absent, there, in-section}
use mathlib.Core.Path.{refl}
use Rattle.tree_building.proofs.build_in.Goals as goal

pub returns-then-table-eq0 : goal.returns-then-table-eq0
unfolding outcome_in
returns-then-table-eq0 c =
    rw (absent _ (obeyed _ _ c.requires) _ _ _ c.table_of-table.ensures.first_value c.table_of-table.ensures.count_value c.if-table-eq0.true)
    (record { answer = refl; bytes = refl })

pub build_for-requires : goal.build_for-requires
build_for-requires c =
    let formed = c.requires in
    record { well_formed = formed; count_bound = rw constructors-length at (in-section _ (obeyed _ _ formed) _ _ _ c.table_of-table.ensures.first_value c.table_of-table.ensures.count_value) }

pub returns : goal.returns
unfolding outcome_in
returns c =
    rw (there _ (obeyed _ _ c.requires) _ _ _ c.table_of-table.ensures.first_value c.table_of-table.ensures.count_value c.if-table-eq0.false)
    (rw (c.table_of-table.ensures.first_value, c.table_of-table.ensures.count_value) at c.build_for.ensures)
