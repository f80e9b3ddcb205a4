-- The judgement of a byte list: its fault, or the description that it is.
use Rattle.std.specs.Prelude.{ℕ, Bool, cond, List, [], ◌∷◌, ◌≡◌, ltb, length, get_or, Result, Ok, Err}
use Rattle.lists.specs.Below.{all_below, first_below}
use Rattle.format.specs.Numbers.{section_itself}
use Rattle.format.specs.Layout.{layout_of, SectionsInBounds}
use Rattle.format.specs.Description.{Description, description, no_field, no_name, no_operand, no_piece}
use Rattle.format.specs.Expression.{no_expression, writes_expression}
use Rattle.format.specs.Rules.{field_ok, name_ok, constructor_ok, operand_ok, piece_ok, letter_ok}
use Rattle.format.specs.declared.Layout.{Layout}
use Rattle.format.specs.declared.Fault.{Fault}

-- the first record of a section that breaks the section's rule, or the section's count; and whether none does
abbrev pub first_bad : {A : Type 0} → (A → Bool) → A → List A → ℕ
first_bad rule none records = first_below (length records) (λ i. rule (get_or records i none))

abbrev pub all_good : {A : Type 0} → (A → Bool) → A → List A → Bool
all_good rule none records = all_below (length records) (λ i. rule (get_or records i none))

unfoldable pub bad_field : Description → ℕ
bad_field d = first_bad (field_ok (length d.names)) no_field d.fields

unfoldable pub bad_name : Description → ℕ
bad_name d = first_bad (name_ok (length d.text)) no_name d.names

unfoldable pub bad_constructor : Description → ℕ
bad_constructor d = first_below (length d.constructors) (constructor_ok d)

unfoldable pub bad_operand : Description → ℕ
bad_operand d = first_bad (operand_ok d.fields (length d.expressions)) no_operand d.operands

unfoldable pub bad_piece : Description → ℕ
bad_piece d = first_bad (piece_ok (length d.text)) no_piece d.pieces

unfoldable pub bad_letter : Description → ℕ
bad_letter d = first_bad letter_ok 0 d.text

unfoldable pub bad_expression : Description → ℕ
bad_expression d = first_bad writes_expression no_expression d.expressions

-- record i of section k is at fault if it is one of the section's n; else what comes after it is judged
abbrev pub named : ℕ → ℕ → ℕ → Result Layout Fault → Result Layout Fault
named k i n rest = cond (ltb i n) (Err (record { section = k; number = i })) rest

-- the faults of the text and the expressions
unfoldable pub last_fault : Description → Layout → Result Layout Fault
last_fault d l = named 6 (bad_letter d) (length d.text) (named 7 (bad_expression d) (length d.expressions) (Ok l))

-- the faults of the operands and pieces, then those
unfoldable pub part_fault : Description → Layout → Result Layout Fault
part_fault d l =
    named 4 (bad_operand d) (length d.operands) (named 5 (bad_piece d) (length d.pieces) (last_fault d l))

-- "Then the first faulty record in file order is named. A description without a fault is well formed."
unfoldable pub fault_of : Description → Layout → Result Layout Fault
fault_of d l =
    named 1 (bad_field d) (length d.fields)
    (named 2 (bad_name d) (length d.names)
    (named 3 (bad_constructor d) (length d.constructors) (part_fault d l)))

abbrev pub judged : List ℕ → Result Layout ℕ → Result Layout Fault
judged b (Ok l) = fault_of (description b l) l
judged b (Err k) = Err (record { section = k; number = section_itself })

-- what `check` answers
unfoldable pub check_of : List ℕ → Result Layout Fault
check_of b = judged b (layout_of b)

-- "1 | description not well formed | section, record": the answer's number in document 01's table ..
abbrev pub number_of : Result Layout Fault → ℕ
number_of (Ok l) = 0
number_of (Err x) = 1

-- .. and its values, unused ones 0
abbrev pub values_of : Result Layout Fault → List ℕ
values_of (Ok l) = 0 ∷ 0 ∷ 0 ∷ 0 ∷ []
values_of (Err x) = x.section ∷ x.number ∷ 0 ∷ 0 ∷ []

-- what a byte list means: a well-formed description, or a fault with its section and record
pub data Parsed : Type 0 where
  formed : Description → Parsed
  fault : ℕ → ℕ → Parsed

abbrev pub meaning : List ℕ → Result Layout Fault → Parsed
meaning b (Ok l) = formed (description b l)
meaning b (Err x) = fault x.section x.number

unfoldable pub parse : List ℕ → Parsed
parse b = meaning b (check_of b)

-- these bytes read as the description `description b l`, with these places
pub record WellFormed (b : List ℕ) (l : Layout) : Type 0 where
  pub room : SectionsInBounds b l
  pub good : check_of b ≡ Ok l
