use Rattle.choosing.specs.Scan.{word_short, word_match, ScanState}
use Rattle.choosing.specs.Patterns.{patterns_in}
use Rattle.lists.specs.Below.{any_below}
use mathlib.Core.Path.{◌≡◌}
use mathlib.Core.Bool.{false}
use Prim.Native.Nat.{◌≤◌, ◌-◌}
use Rattle.choosing.proofs.scan.Given as goal

abbrev pub invariant-loop-next : goal.invariant-loop-next
invariant-loop-next l =
    (l.next ≤ l.table.count)
    × (any_below l.next (word_short (patterns_in l.desc l.constructors l.table) l.input) ≡ false)
    × ScanState (patterns_in l.desc l.constructors l.table) (word_match (patterns_in l.desc l.constructors l.table) l.input) l.table.count l.next l.best

abbrev pub decreases-loop-next : goal.decreases-loop-next
decreases-loop-next l = l.table.count - l.next
