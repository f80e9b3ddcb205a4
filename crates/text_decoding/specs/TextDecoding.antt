-- Decoding to text: the answers of document 01's table, tested in the order 1, those of the walk, 8, 13, 10, 9.
use Rattle.std.specs.Prelude.{ℕ, List, [], ◌∷◌, Result, Ok, Err}
use Rattle.format.specs.Description.{Description}
use Rattle.acceptance.specs.Acceptance.{acceptance_of, accepting, rejection_number, rejection_values}
use Rattle.decoding_spec.specs.Tree.{Node}
use Rattle.decoding_spec.specs.Walk.{Result as WalkResult, done, refused}
use Rattle.decoding_spec.specs.Instruction.{instruction_of}
use Rattle.decoding_spec.specs.Refusals.{refusal_number, refusal_values}
use Rattle.text.specs.Text.{text_of}
use Rattle.text.specs.Lines.{line_of, lent_after}
use Rattle.text.specs.declared.NoText.{NoText}
use Rattle.text.specs.declared.NoText.TheVariants as none
use Rattle.text_decoding.specs.declared.TextError.{TextError}
use Rattle.text_decoding.specs.declared.TextError.TheVariants.{Rejected, Refused, TooLong, NoRoom}

-- of a whole text
abbrev pub text_error : NoText → TextError
text_error none.TooLong = TooLong
text_error none.NoRoom = NoRoom

abbrev pub line_answer : Result ℕ NoText → Result ℕ TextError
line_answer (Ok n) = Ok n
line_answer (Err e) = Err (text_error e)

-- of an instruction, with room for so many bytes
abbrev pub answer_of : Description → ℕ → WalkResult Node → Result ℕ TextError
answer_of d room (done n l st) = line_answer (line_of (text_of d n) room)
answer_of d room (refused r) = Err (Refused r)

-- "Only 0 writes, and only what it counts": the lent bytes afterwards
abbrev pub buffer_after : Description → List ℕ → WalkResult Node → List ℕ
buffer_after d old (done n l st) = lent_after (text_of d n) old
buffer_after d old (refused r) = old

-- of the instruction of a description in context c, at an address, bytes s as the code
abbrev pub instruction_answer : Description → (c address : ℕ) → List ℕ → ℕ → Result ℕ TextError
instruction_answer d c address s room = answer_of d room (instruction_of d c address s)

abbrev pub instruction_buffer : Description → (c address : ℕ) → List ℕ → List ℕ → List ℕ
instruction_buffer d c address s old = buffer_after d old (instruction_of d c address s)

-- bytes b as the description, context c, the instruction's address, bytes s as the code, room for so many bytes
unfoldable pub decode_text_of : List ℕ → (c address : ℕ) → List ℕ → ℕ → Result ℕ TextError
decode_text_of b c address s room = accepting (λ x. Err (Rejected x)) (λ d. instruction_answer d c address s room) b (acceptance_of b)

-- the lent bytes afterwards
unfoldable pub text_after : List ℕ → (c address : ℕ) → List ℕ → List ℕ → List ℕ
text_after b c address s old = accepting (λ x. old) (λ d. instruction_buffer d c address s old) b (acceptance_of b)

-- the answer's number in document 01's table ..
abbrev pub number_of : Result ℕ TextError → ℕ
number_of (Ok n) = 0
number_of (Err (Rejected x)) = rejection_number x
number_of (Err (Refused r)) = refusal_number r
number_of (Err TooLong) = 10
number_of (Err NoRoom) = 9

-- .. and its values, unused ones 0
abbrev pub values_of : Result ℕ TextError → List ℕ
values_of (Ok n) = n ∷ 0 ∷ 0 ∷ 0 ∷ []
values_of (Err (Rejected x)) = rejection_values x
values_of (Err (Refused r)) = refusal_values r
values_of (Err TooLong) = 0 ∷ 0 ∷ 0 ∷ 0 ∷ []
values_of (Err NoRoom) = 0 ∷ 0 ∷ 0 ∷ 0 ∷ []
