use Rattle.clash_check.proofs.Pairs.{answer}
use Rattle.clash_check.specs.Entry.{clash_in}
use Rattle.choosing_theorems.proofs.Clear.{pair-first}
use Rattle.tables.proofs.Range.{absent, there, in-section}
use Rattle.format.proofs.Lists.{constructors-length}
use Rattle.format.proofs.Formation.{obeyed}
use native.Mathlib.Omega.{arith}
use mathlib.Core.Path.{sym, ◌∙◌}
use Prim.Native.Nat.{◌+◌, ◌≤◌}
use Rattle.clash_check.proofs.clash_in.Goals as goal

pub returns-then-table-eq0 : goal.returns-then-table-eq0
unfolding clash_in
returns-then-table-eq0 c =
    rw (absent _ (obeyed _ _ c.requires) _ _ _ c.table_of-table.ensures.first_value c.table_of-table.ensures.count_value c.if-table-eq0.true)

pub first_clash-requires : goal.first_clash-requires
first_clash-requires c =
    record { sections_in_bounds = c.requires.room; count_bound = rw constructors-length at (in-section _ (obeyed _ _ c.requires) _ _ _ c.table_of-table.ensures.first_value c.table_of-table.ensures.count_value) }

pub overflow_add-result : goal.overflow_add-result
overflow_add-result c =
    let p = pair-first _ _ _ _ (sym c.first_clash.ensures ∙ c.in-Some.is) in
    let n : c.table_of-table.result.first + c.table_of-table.result.count ≤ c.args.layout.constructors.count = rw constructors-length at (in-section _ (obeyed _ _ c.requires) _ _ _ c.table_of-table.ensures.first_value c.table_of-table.ensures.count_value) in
    omega (arith, p.order, p.inside, c.requires.room.constructors)

pub overflow_add-result-in-Some : goal.overflow_add-result-in-Some
overflow_add-result-in-Some c =
    let p = pair-first _ _ _ _ (sym c.first_clash.ensures ∙ c.in-Some.is) in
    let n : c.table_of-table.result.first + c.table_of-table.result.count ≤ c.args.layout.constructors.count = rw constructors-length at (in-section _ (obeyed _ _ c.requires) _ _ _ c.table_of-table.ensures.first_value c.table_of-table.ensures.count_value) in
    omega (arith, p.order, p.inside, c.requires.room.constructors)

pub returns-in-None : goal.returns-in-None
returns-in-None c =
    answer _ _ _ _ c.table_of-table.ensures.first_value c.table_of-table.ensures.count_value
    (there _ (obeyed _ _ c.requires) _ _ _ c.table_of-table.ensures.first_value c.table_of-table.ensures.count_value c.if-table-eq0.false) _
    (sym c.first_clash.ensures ∙ c.in-None.is)

pub returns-in-Some : goal.returns-in-Some
returns-in-Some c =
    answer _ _ _ _ c.table_of-table.ensures.first_value c.table_of-table.ensures.count_value
    (there _ (obeyed _ _ c.requires) _ _ _ c.table_of-table.ensures.first_value c.table_of-table.ensures.count_value c.if-table-eq0.false) _
    (sym c.first_clash.ensures ∙ c.in-Some.is)
