-- Laws of the tables' first constructors as a list.
use Prim.Native.Nat.{ℕ, ◌+◌, ◌≤◌}
use mathlib.Core.Path.{◌≡◌}
use native.Mathlib.Omega.{arith}
use lib.ListN.{length, get_or}
use Rattle.lists.proofs.Tab.{tab-length, tab-at}
use Rattle.format.specs.Numbers.{tables}
use Rattle.format.specs.Description.{Description}
use Rattle.format.specs.Tables.{table_first}
use Rattle.tables.specs.Starts.{table_starts}

module _ (d : Description) where
  pub starts-length : length (table_starts d) ≡ tables + 1
  unfolding table_starts
  starts-length = tab-length (table_first d) (tables + 1)

  pub start-at : (t : ℕ) → t ≤ tables → get_or (table_starts d) t 0 ≡ table_first d t
  unfolding table_starts
  start-at t h = tab-at (table_first d) (tables + 1) t 0 (omega arith)
