use Rattle.choosing_spec.specs.Table.{pattern_from}
use Rattle.patterns.specs.Relations.{equal}
use Rattle.format.specs.declared.Pattern.{Pattern}
use Rattle.format.specs.Description.{description}
use Rattle.lists.specs.Below.{any_below}
use lib.Dec.{eqb}
use mathlib.Core.Path.{◌≡◌}
use mathlib.Core.Bool.{Bool, false, not, ◌&&◌}
use Prim.Native.Nat.{ℕ}
use Rattle.clash_check.proofs.has_third.Given as goal

-- record t is a third one with pattern p
abbrev pub is : (ℕ → Pattern) → ℕ → ℕ → Pattern → ℕ → Bool
is at i j p t = not (eqb t i) && not (eqb t j) && equal (at t) p

abbrev pub invariant-loop-t : goal.invariant-loop-t
invariant-loop-t l =
    any_below l.t (is (pattern_from (description l.desc l.layout) l.table.first) l.i l.j l.p) ≡ false
