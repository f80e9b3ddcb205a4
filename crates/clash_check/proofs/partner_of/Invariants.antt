use Rattle.clash_check.proofs.Pairs.{parted}
use Rattle.choosing_spec.specs.Table.{pattern_from}
use Rattle.format.specs.Description.{description}
use Rattle.lists.specs.Below.{all_below}
use mathlib.Core.Path.{◌≡◌}
use mathlib.Core.Bool.{true}
use Rattle.clash_check.proofs.partner_of.Given as goal

abbrev pub invariant-loop-j : goal.invariant-loop-j
invariant-loop-j l =
    all_below l.j (parted (pattern_from (description l.desc l.layout) l.table.first) l.table.count l.i) ≡ true
