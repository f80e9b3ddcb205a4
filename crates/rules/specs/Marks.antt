-- A list that marks the numbers which some record names, gathered once instead of searched for each time.
use Rattle.std.specs.Prelude.{ℕ, ◌<◌, Bool, false, List, ◌≡◌, get_or, replicate}
use Rattle.lists.specs.Tab.{tab}
use Rattle.format.specs.Numbers.{byte_values}
use Rattle.format.specs.Description.{Description}
use Rattle.format.specs.Rules.{has_table}

-- no number that a byte may have is marked
abbrev pub no_marks : List Bool
no_marks = replicate byte_values false

-- for each number that a byte may have, whether a constructor has it as its table
unfoldable pub table_marks : Description → List Bool
table_marks d = tab (has_table d) byte_values

-- number k, if below the size, is marked exactly where it is named
pub record Marks (size : ℕ) (list : List Bool) (named : ℕ → Bool) : Type 0 where
  pub marked : (k : ℕ) → k < size → get_or list k false ≡ named k

-- the marks of the operands shown so far: more than the numbers that an operand may have
abbrev pub shown_marks : ℕ
shown_marks = 16
