-- A table of a description as choosing sees it: its records numbered from its first constructor.
use Rattle.std.specs.Prelude.{ℕ, ◌+◌, ◌-◌, List, get_or, Result}
use Rattle.format.specs.Description.{Description, no_constructor}
use Rattle.format.specs.Tables.{table_first, table_end}
use Rattle.format.specs.declared.Pattern.{Pattern}
use Rattle.choosing_spec.specs.Choosing.{choose}
use Rattle.choosing_spec.specs.declared.NotChosen.{NotChosen}

-- the pattern of record j from a first constructor on
unfoldable pub pattern_from : Description → ℕ → ℕ → Pattern
pattern_from d first j = (get_or d.constructors (first + j) no_constructor).pattern

-- choosing in table t of d, for the bytes s and the context c
abbrev pub choose_in : Description → ℕ → List ℕ → ℕ → Result ℕ NotChosen
choose_in d t s c = choose (pattern_from d (table_first d t)) (table_end d t - table_first d t) s c
