-- What `table_of` found: whether the table is there, and that its constructors lie in their section.
use Prim.Native.Nat.{ℕ, ◌+◌, ◌-◌, ◌≤◌}
use mathlib.Core.Bool.{true, false}
use mathlib.Core.Path.{◌≡◌, refl, ◌∙◌}
use native.Mathlib.Omega.{arith}
use borrow.Author.Tests.{lt-ltb, le-ltb}
use lib.ListN.{length}
use Rattle.format.specs.Description.{Description}
use Rattle.format.specs.Rules.{has_table}
use Rattle.format.specs.Tables.{root_of, table_first, table_end}
use Rattle.format.proofs.Formation.{RulesHold}
use Rattle.format.proofs.Tables.{has-range, first-within, end-within, of-table}

module _ (d : Description) (o : RulesHold d) (t first count : ℕ) (f : first ≡ table_first d t) (g : count ≡ table_end d t - table_first d t) where
  pub absent : count ≡ 0 → has_table d t ≡ false
  absent z = has-range d o t ∙ le-ltb (table_first d t) (table_end d t) (omega arith)

  pub there : (count ≡ 0 → ⊥) → has_table d t ≡ true
  there z = has-range d o t ∙ lt-ltb (table_first d t) (table_end d t) (omega (arith, z))

  pub in-section : first + count ≤ length d.constructors
  in-section = omega (arith, first-within d o t, end-within d o t)

-- the root's constructors go up to the section's end
pub root-end : (d : Description) → RulesHold d → 1 ≤ length d.constructors → table_end d (root_of d) ≡ length d.constructors
root-end d o some =
    omega (arith, (of-table d o (root_of d) (length d.constructors - 1) (omega arith) refl).1, end-within d o (root_of d))
