use Prim.Native.Nat.{◌-◌}
use mathlib.Core.Path.{◌≡◌}
use Rattle.scratch_rows.specs.Places.{skip}
use Rattle.text.proofs.row_behind.Given as goal

-- `text::row_behind` meets its contract. Assumes nothing.
abbrev pub invariant-loop : goal.invariant-loop
invariant-loop l = skip l.rows l.row (l.parts - l.counter) ≡ skip l.rows l.first l.parts
