-- The clash check refuses 1, then 12 ("Order: 1, 12"), and answers the pair, by their records of section 3, or clear.
use Rattle.std.specs.Prelude.{ℕ, ◌+◌, ◌-◌, cond, List, [], ◌∷◌, Option, Some, None, Result, Ok, Err}
use Rattle.format.specs.Check.{check_of}
use Rattle.format.specs.Description.{Description, description}
use Rattle.format.specs.Rules.{has_table}
use Rattle.format.specs.Tables.{table_first, table_end}
use Rattle.format.specs.declared.Fault.{Fault}
use Rattle.format.specs.declared.Layout.{Layout}
use Rattle.choosing_spec.specs.Clashing.{clash_of}
use Rattle.choosing_spec.specs.Table.{pattern_from}
use Rattle.clash_check.specs.declared.ClashError.{ClashError}
use Rattle.clash_check.specs.declared.ClashError.TheVariants.{Malformed, NoTable}

-- a table's clash, by its records of section 3
abbrev pub placed : ℕ → Option (ℕ × ℕ) → Option (ℕ × ℕ)
placed first None = None
placed first (Some (i, j)) = Some (first + i, first + j)

unfoldable pub clash_in : Description → ℕ → Result (Option (ℕ × ℕ)) ClashError
clash_in d t =
    cond (has_table d t)
    (Ok (placed (table_first d t) (clash_of (pattern_from d (table_first d t)) (table_end d t - table_first d t))))
    (Err (NoTable t))

abbrev pub judged_by : List ℕ → ℕ → Result Layout Fault → Result (Option (ℕ × ℕ)) ClashError
judged_by b t (Ok l) = clash_in (description b l) t
judged_by b t (Err f) = Err (Malformed f)

-- bytes b as the description, table t
unfoldable pub clash_answer : List ℕ → ℕ → Result (Option (ℕ × ℕ)) ClashError
clash_answer b t = judged_by b t (check_of b)

-- the answer's number in document 01's table: "A clash, a rejected tree and a sweep's end are answers, not refusals" ..
abbrev pub number_of : Result (Option (ℕ × ℕ)) ClashError → ℕ
number_of (Ok r) = 0
number_of (Err (Malformed f)) = 1
number_of (Err (NoTable t)) = 12

-- .. and its values, unused ones 0: 0 for clear, or 1 and the pair
abbrev pub values_of : Result (Option (ℕ × ℕ)) ClashError → List ℕ
values_of (Ok None) = 0 ∷ 0 ∷ 0 ∷ 0 ∷ []
values_of (Ok (Some (i, j))) = 1 ∷ i ∷ j ∷ 0 ∷ []
values_of (Err (Malformed f)) = f.section ∷ f.number ∷ 0 ∷ 0 ∷ []
values_of (Err (NoTable t)) = t ∷ 0 ∷ 0 ∷ 0 ∷ []
