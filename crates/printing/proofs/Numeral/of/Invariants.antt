use Prim.Native.Nat.{◌≤◌}
use mathlib.Core.List.{◌++◌}
use mathlib.Core.Path.{◌≡◌}
use Rattle.printing.specs.Numerals.{base_number, digits_of}
use Rattle.printing.proofs.Numeral.of.Given as goal

abbrev pub invariant-loop-rest : goal.invariant-loop-rest
invariant-loop-rest l = (l.rest ≤ l.n) × (digits_of (base_number l.base) l.rest ++ l.numeral ≡ digits_of (base_number l.base) l.n)

abbrev pub decreases-loop-rest : goal.decreases-loop-rest
decreases-loop-rest l = l.rest
