use Rattle.format.specs.Rules.{table_at}
use Rattle.format.specs.Description.{description}
use Prim.Native.Nat.{ℕ, ◌≤◌, ◌<◌, ◌-◌}
use Rattle.tables.proofs.first_from.Given as goal

abbrev pub invariant-loop-low : goal.invariant-loop-low
invariant-loop-low l =
    (l.low ≤ l.high) × (l.high ≤ l.layout.constructors.count) × ((i : ℕ) → i < l.low → table_at (description l.desc l.layout) i < l.t)
    × (l.high < l.layout.constructors.count → l.t ≤ table_at (description l.desc l.layout) l.high)

abbrev pub decreases-loop-low : goal.decreases-loop-low
decreases-loop-low l = l.high - l.low
