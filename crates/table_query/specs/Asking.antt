-- "Asking one table": the answers of document 01's table, tested in the order 1, 12, 2, 3, 4 with place 0.
use Rattle.std.specs.Prelude.{ℕ, ◌+◌, cond, List, [], ◌∷◌, Result, Ok, Err}
use Rattle.format.specs.Description.{Description}
use Rattle.format.specs.Rules.{has_table}
use Rattle.format.specs.Tables.{table_first}
use Rattle.acceptance.specs.Acceptance.{acceptance_of, accepting, rejection_number, rejection_values}
use Rattle.patterns.specs.Relations.{weight}
use Rattle.format.specs.declared.Pattern.{Pattern}
use Rattle.choosing_spec.specs.declared.NotChosen.{NotChosen}
use Rattle.choosing_spec.specs.declared.NotChosen.TheVariants as not_chosen
use Rattle.choosing_spec.specs.Table.{pattern_from, choose_in}
use Rattle.table_query.specs.declared.Asked.{Asked}
use Rattle.table_query.specs.declared.AskError.{AskError}
use Rattle.table_query.specs.declared.AskError.TheVariants.{Rejected, NoTable, Short, NoMatch, Ambiguous}

-- record j of a table is taken, whose records stand from constructor `first` on, with the patterns `at`
abbrev pub taken_from : ℕ → (ℕ → Pattern) → ℕ → Asked
taken_from first at j = record { constructor = first + j; weight = weight (at j) }

-- what a choice in table t of d answers; the constructor is its record of section 3
abbrev pub answered : Description → ℕ → Result ℕ NotChosen → Result Asked AskError
answered d t (Err not_chosen.Short) = Err Short
answered d t (Err not_chosen.NoMatch) = Err (NoMatch t)
answered d t (Ok j) = Ok (taken_from (table_first d t) (pattern_from d (table_first d t)) j)
answered d t (Err not_chosen.Ambiguous) = Err (Ambiguous t)

unfoldable pub ask_in : Description → ℕ → ℕ → List ℕ → Result Asked AskError
ask_in d t c s = cond (has_table d t) (answered d t (choose_in d t s c)) (Err (NoTable t))

-- bytes b as the description, table t, context c, bytes s as the code
unfoldable pub ask_of : List ℕ → ℕ → ℕ → List ℕ → Result Asked AskError
ask_of b t c s = accepting (λ x. Err (Rejected x)) (λ d. ask_in d t c s) b (acceptance_of b)

-- the answer's number in document 01's table ..
abbrev pub number_of : Result Asked AskError → ℕ
number_of (Ok a) = 0
number_of (Err (Rejected x)) = rejection_number x
number_of (Err (NoTable t)) = 12
number_of (Err Short) = 2
number_of (Err (NoMatch t)) = 3
number_of (Err (Ambiguous t)) = 4

-- .. and its values, unused ones 0
abbrev pub values_of : Result Asked AskError → List ℕ
values_of (Ok a) = a.constructor ∷ a.weight ∷ 0 ∷ 0 ∷ []
values_of (Err (Rejected x)) = rejection_values x
values_of (Err (NoTable t)) = t ∷ 0 ∷ 0 ∷ 0 ∷ []
values_of (Err Short) = 0 ∷ 0 ∷ 0 ∷ 0 ∷ []
values_of (Err (NoMatch t)) = 0 ∷ t ∷ 0 ∷ 0 ∷ []
values_of (Err (Ambiguous t)) = 0 ∷ t ∷ 0 ∷ 0 ∷ []
