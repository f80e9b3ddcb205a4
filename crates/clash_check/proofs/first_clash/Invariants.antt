use Rattle.clash_check.proofs.Pairs.{quiet}
use Rattle.choosing_spec.specs.Table.{pattern_from}
use Rattle.format.specs.Description.{description}
use Rattle.lists.specs.Below.{all_below}
use mathlib.Core.Path.{◌≡◌}
use mathlib.Core.Bool.{true}
use Rattle.clash_check.proofs.first_clash.Given as goal

abbrev pub invariant-loop-i : goal.invariant-loop-i
invariant-loop-i l =
    all_below l.i (quiet (pattern_from (description l.desc l.layout) l.table.first) l.table.count) ≡ true
