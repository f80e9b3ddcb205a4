-- The first test of every entry point: "1 | description not well formed".
use Rattle.std.specs.Prelude.{ℕ, List, [], ◌∷◌, Result, Ok, Err}
use Rattle.format.specs.Check.{check_of}
use Rattle.format.specs.Description.{Description, description}
use Rattle.format.specs.declared.Fault.{Fault}
use Rattle.format.specs.declared.Layout.{Layout}
use Rattle.acceptance.specs.declared.Rejection.{Rejection}

abbrev pub rejection_of : Fault → Rejection
rejection_of f = record { section = f.section; number = f.number }

abbrev pub accepted_by : Result Layout Fault → Result Layout Rejection
accepted_by (Ok l) = Ok l
accepted_by (Err f) = Err (rejection_of f)

unfoldable pub acceptance_of : List ℕ → Result Layout Rejection
acceptance_of b = accepted_by (check_of b)

-- "Order: 1, 12, 11": a rejection comes before all else that an entry point answers; bytes b as the description, and their acceptance
abbrev pub accepting : {A : Type 0} → (Rejection → A) → (Description → A) → List ℕ → Result Layout Rejection → A
accepting rejected answer b (Ok l) = answer (description b l)
accepting rejected answer b (Err x) = rejected x

-- the answer's number in document 01's table, and its values: "section, record"
abbrev pub rejection_number : Rejection → ℕ
rejection_number x = 1

abbrev pub first_value : Rejection → ℕ
first_value x = x.section

abbrev pub second_value : Rejection → ℕ
second_value x = x.number

abbrev pub third_value : Rejection → ℕ
third_value x = 0

-- unused ones 0
abbrev pub rejection_values : Rejection → List ℕ
rejection_values x = first_value x ∷ second_value x ∷ third_value x ∷ 0 ∷ []

-- of the check by itself
abbrev pub number_of : Result Layout Rejection → ℕ
number_of (Ok l) = 0
number_of (Err x) = rejection_number x

abbrev pub values_of : Result Layout Rejection → List ℕ
values_of (Ok l) = 0 ∷ 0 ∷ 0 ∷ 0 ∷ []
values_of (Err x) = rejection_values x
