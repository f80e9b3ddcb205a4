-- The first constructor of each table, as a list.
use Rattle.std.specs.Prelude.{ℕ, ◌+◌, List}
use Rattle.lists.specs.Tab.{tab}
use Rattle.format.specs.Numbers.{tables}
use Rattle.format.specs.Description.{Description}
use Rattle.format.specs.Tables.{table_first}

-- the number behind the last table's has the section's count, so a table's constructors go up to the next one's first
unfoldable pub table_starts : Description → List ℕ
table_starts d = tab (table_first d) (tables + 1)
