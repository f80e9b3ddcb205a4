-- A table that a tree can be built for.
use Rattle.std.specs.Prelude.{ℕ, ◌+◌, ◌<◌, ◌≤◌, List, ◌≡◌, None}
use Rattle.format.specs.Layout.{inside}
use Rattle.format.specs.Numbers.{most_constructors, constructor_bytes}
use Rattle.format.specs.declared.Section.{Section}
use Rattle.tables.specs.declared.Table.{Table}
use Rattle.choosing.specs.Patterns.{patterns_in}
use Rattle.choosing_spec.specs.Clashing.{clash_of}
use Rattle.choosing_spec.specs.ValidPattern.{ValidPattern}

-- it lies in its section, its patterns are valid, and it has no clash
pub record Ready (b : List ℕ) (s : Section) (table : Table) : Type 0 where
  pub room : inside b constructor_bytes s
  pub within : table.first + table.count ≤ s.count
  pub low : table.first + table.count ≤ most_constructors
  pub sound : (j : ℕ) → j < table.count → ValidPattern (patterns_in b s table j)
  pub clear : clash_of (patterns_in b s table) table.count ≡ None
