-- The answer of a table that is there, from the choice that was made in its range.
use Prim.Native.Nat.{ℕ, ◌-◌}
use mathlib.Core.Bool.{true}
use mathlib.Core.List.{List}
use mathlib.Core.Path.{◌≡◌}
use Rattle.std.specs.Prelude.{Result}
use Rattle.format.specs.Description.{Description}
use Rattle.format.specs.Rules.{has_table}
use Rattle.format.specs.Tables.{table_first, table_end}
use Rattle.choosing_spec.specs.Choosing.{choose}
use Rattle.choosing_spec.specs.declared.NotChosen.{NotChosen}
use Rattle.choosing_spec.specs.Table.{pattern_from, choose_in}
use Rattle.table_query.specs.Asking.{ask_in, answered}

pub answer : (d : Description) (t c : ℕ) (s : List ℕ) (first count : ℕ) → first ≡ table_first d t → count ≡ table_end d t - table_first d t
    → has_table d t ≡ true → (r : Result ℕ NotChosen) → choose (pattern_from d first) count s c ≡ r → answered d t r ≡ ask_in d t c s
unfolding ask_in
answer d t c s first count f g h r e =
    let p : choose_in d t s c ≡ r = rw (← g, ← f) e in
    rw (h, p)
