-- A description's tables: the root, and where a table's constructors stand.
use Rattle.std.specs.Prelude.{ℕ, ◌-◌, leb, ltb, length}
use Rattle.lists.specs.Below.{first_below}
use Rattle.format.specs.Description.{Description}
use Rattle.format.specs.Rules.{table_at}

-- "The root is the last constructor's table."
abbrev pub root_of : Description → ℕ
root_of d = table_at d (length d.constructors - 1)

-- the first constructor whose table is not below t, and the first whose table is above t, or the section's count: since no
-- table is below the one before it, the constructors of table t are those from the one up to the other
unfoldable pub table_first : Description → ℕ → ℕ
table_first d t = first_below (length d.constructors) (λ i. ltb (table_at d i) t)

unfoldable pub table_end : Description → ℕ → ℕ
table_end d t = first_below (length d.constructors) (λ i. leb (table_at d i) t)

-- how many constructors table t has
abbrev pub table_count : Description → ℕ → ℕ
table_count d t = table_end d t - table_first d t
