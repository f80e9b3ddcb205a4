-- The patterns of a table that the code holds as a range of constructors.
use Rattle.std.specs.Prelude.{ℕ, ◌+◌, List, get_or}
use Rattle.format.specs.Description.{description, records_of, no_constructor}
use Rattle.format.specs.Numbers.{constructor_bytes}
use Rattle.format.specs.Record.{constructor_at}
use Rattle.format.specs.declared.Layout.{Layout}
use Rattle.format.specs.declared.Pattern.{Pattern}
use Rattle.format.specs.declared.Section.{Section}
use Rattle.tables.specs.declared.Table.{Table}
use Rattle.choosing_spec.specs.Table.{pattern_from}

-- the patterns of a table's records, in bytes that read as a description
abbrev pub patterns_of : List ℕ → Layout → Table → ℕ → Pattern
patterns_of b l table = pattern_from (description b l) table.first

-- a section by its numbers
abbrev pub section_as : ℕ → ℕ → Section
section_as start records = record { start = start; count = records }

-- the pattern of record j from a first constructor on, in bytes whose constructors stand in this section
unfoldable pub pattern_in : List ℕ → Section → ℕ → ℕ → Pattern
pattern_in b s first j = (get_or (records_of constructor_at constructor_bytes b s) (first + j) no_constructor).pattern

-- so those of a table's records
abbrev pub patterns_in : List ℕ → Section → Table → ℕ → Pattern
patterns_in b s table = pattern_in b s table.first
