use Rattle.format.proofs.Tables.{end_is, first-within}
use Rattle.format.proofs.Formation.{obeyed}
use Rattle.format.specs.Description.{description}
use Rattle.tables.proofs.table_of.Goals as goal

pub overflow_sub-result : goal.overflow_sub-result
overflow_sub-result c =
    rw (c.first_from-first.ensures, c.first_from-end.ensures, ← end_is (description c.args.desc.now c.args.layout) c.args.t)
    (first-within _ (obeyed _ _ c.requires) _)

pub returns : goal.returns
returns c = record { first_value = c.first_from-first.ensures; count_value = rw (end_is, c.first_from-first.ensures, c.first_from-end.ensures) }
