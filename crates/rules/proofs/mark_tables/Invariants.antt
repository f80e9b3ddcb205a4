use Rattle.format.specs.Numbers.{byte_values}
use Rattle.rules.specs.Marks.{Marks}
use Rattle.format.specs.declared.Layout.{Layout}
use Rattle.format.specs.Rules.{table_at}
use Rattle.format.specs.Description.{description}
use Rattle.lists.specs.Below.{any_below}
use lib.ListN.{length}
use lib.Dec.{eqb}
use mathlib.Core.Path.{◌≡◌}
use mathlib.Core.List.{List}
use mathlib.Core.Bool.{Bool}
use Prim.Native.Nat.{ℕ}
use Rattle.rules.proofs.mark_tables.Given as goal

-- constructor j has table t
abbrev pub hits : List ℕ → Layout → ℕ → ℕ → Bool
hits desc layout t j = eqb (table_at (description desc layout) j) t

abbrev pub invariant-loop-i : goal.invariant-loop-i
invariant-loop-i l =
    (length l.marks ≡ byte_values) × Marks byte_values l.marks (λ t. any_below l.i (hits l.desc l.layout t))
