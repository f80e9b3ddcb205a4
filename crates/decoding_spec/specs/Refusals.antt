-- A refusal's facts, each said once: its number in document 01's table, "When the decoder says no" (13: request 1), its values, and whether it is "short".
use Rattle.std.specs.Prelude.{ℕ, Bool, true, false, List, [], ◌∷◌}
use Rattle.decoding_spec.specs.declared.Refusal.{Refusal}
use Rattle.decoding_spec.specs.declared.Refusal.TheVariants.{Short, NoMatch, Ambiguous, Hole, TooFar, TooManyRows, RootLengthZero, ValueOutside}

abbrev pub refusal_number : Refusal → ℕ
refusal_number (Short p) = 2
refusal_number (NoMatch p t) = 3
refusal_number (Ambiguous p t) = 4
refusal_number (Hole p) = 5
refusal_number (TooFar p) = 6
refusal_number TooManyRows = 7
refusal_number RootLengthZero = 8
refusal_number (ValueOutside p) = 13

-- "The place is the start of the constructor or operand at fault"; 7 and 8 have "place 0", 13 "the operand's place"
abbrev pub refusal_place : Refusal → ℕ
refusal_place (Short p) = p
refusal_place (NoMatch p t) = p
refusal_place (Ambiguous p t) = p
refusal_place (Hole p) = p
refusal_place (TooFar p) = p
refusal_place TooManyRows = 0
refusal_place RootLengthZero = 0
refusal_place (ValueOutside p) = p

-- 3 and 4 return "place, table"; where there is no table, 0
abbrev pub refusal_table : Refusal → ℕ
refusal_table (Short p) = 0
refusal_table (NoMatch p t) = t
refusal_table (Ambiguous p t) = t
refusal_table (Hole p) = 0
refusal_table (TooFar p) = 0
refusal_table TooManyRows = 0
refusal_table RootLengthZero = 0
refusal_table (ValueOutside p) = 0

-- its values, unused ones 0
abbrev pub refusal_values : Refusal → List ℕ
refusal_values r = refusal_place r ∷ refusal_table r ∷ 0 ∷ 0 ∷ []

abbrev pub is_short : Refusal → Bool
is_short (Short p) = true
is_short (NoMatch p t) = false
is_short (Ambiguous p t) = false
is_short (Hole p) = false
is_short (TooFar p) = false
is_short TooManyRows = false
is_short RootLengthZero = false
is_short (ValueOutside p) = false
