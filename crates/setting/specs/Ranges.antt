-- A table's constructors, and the choice among them.
use Rattle.std.specs.Prelude.{ℕ, ◌-◌, List, ◌≡◌, Result}
use Rattle.format.specs.Description.{Description}
use Rattle.format.specs.Tables.{table_first, table_end}
use Rattle.tables.specs.declared.Table.{Table}
use Rattle.choosing_spec.specs.Choosing.{choose}
use Rattle.choosing_spec.specs.Table.{pattern_from}
use Rattle.choosing_spec.specs.declared.NotChosen.{NotChosen}
use Rattle.decoding_spec.specs.Walk.{numbered_from}

pub record RangeOf (d : Description) (t : ℕ) (r : Table) : Type 0 where
  pub first : r.first ≡ table_first d t
  pub count : r.count ≡ table_end d t - table_first d t

abbrev pub chosen_among : Description → Table → List ℕ → ℕ → Result ℕ NotChosen
chosen_among d r s c = numbered_from r.first (choose (pattern_from d r.first) r.count s c)
