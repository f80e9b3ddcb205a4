use Rattle.choosing.specs.Scan.{clears, word_match}
use Rattle.choosing.specs.Patterns.{patterns_in}
use Rattle.lists.specs.Below.{all_below}
use mathlib.Core.Path.{◌≡◌}
use mathlib.Core.Bool.{true}
use Rattle.choosing.proofs.clears_all.Given as goal

abbrev pub invariant-loop-j : goal.invariant-loop-j
invariant-loop-j l =
    all_below l.j (clears (patterns_in l.desc l.constructors l.table) (word_match (patterns_in l.desc l.constructors l.table) l.input) l.t) ≡ true
