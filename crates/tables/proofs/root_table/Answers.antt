use Prim.Native.Nat.{◌≤◌}
use mathlib.Core.Path.{◌≡◌, ◌∙◌}
use native.Mathlib.Omega.{arith}
use Rattle.format.specs.Description.{description}
use Rattle.format.specs.Tables.{root_of, table_first, table_end}
use Rattle.format.proofs.Formation.{obeyed}
use Rattle.format.proofs.Lists.{constructors-length}
use Rattle.format.proofs.Tables.{first-within}
use Rattle.tables.proofs.Range.{root-end}
use Rattle.tables.proofs.root_table.Goals.{After-first_from-first}
use Rattle.tables.proofs.root_table.Goals as goal

-- `tables::root_table` meets its contract. Assumes nothing.
-- the root's first constructor; its last is the section's
found : (c : After-first_from-first)
    → let d = description c.args.desc.now c.args.layout in
    (c.first_from-first.result ≡ table_first d (root_of d)) × (table_end d (root_of d) ≡ c.args.layout.constructors.count) × (table_first d (root_of d) ≤ table_end d (root_of d))
found c =
    let rules = obeyed _ _ c.requires in (
      rw (← c.root.ensures) c.first_from-first.ensures,
      root-end _ rules (rw (constructors-length _ _) c.requires.room.some) ∙ constructors-length _ _,
      first-within _ rules _,
    )

pub overflow_sub-result : goal.overflow_sub-result
overflow_sub-result c = omega (arith, found (goal.at.overflow_sub-result c).After-first_from-first)

pub returns : goal.returns
returns c = let f = found (goal.at.returns c).After-first_from-first in record { first_value = f.0; count_value = omega (arith, f) }
