-- Decoding to rows: the answers of document 01's table, tested in the order 1, those of the walk, 8, 13, 9.
use Rattle.std.specs.Prelude.{ℕ, ◌*◌, cond, List, [], ◌∷◌, ◌++◌, ◌≡◌, leb, ℤ, length, drop, Result, Ok, Err}
use Rattle.format.specs.Numbers.{row_numbers}
use Rattle.format.specs.Description.{Description}
use Rattle.acceptance.specs.Acceptance.{acceptance_of, accepting, rejection_number, rejection_values}
use Rattle.decoding_spec.specs.Refusals.{refusal_number, refusal_values}
use Rattle.decoding_spec.specs.Tree.{Node, rows_of, numbers_of}
use Rattle.decoding_spec.specs.Walk.{Result as WalkResult, done, refused}
use Rattle.decoding_spec.specs.Instruction.{instruction_of}
use Rattle.decoding.specs.declared.DecodeError.{DecodeError}
use Rattle.decoding.specs.declared.DecodeError.TheVariants.{Rejected, Refused, NoRoom}

-- "lent rows .. too short": of an instruction, with room for so many numbers
abbrev pub answer_of : ℕ → WalkResult Node → Result ℕ DecodeError
answer_of room (done n l st) = cond (leb (row_numbers * length (rows_of n)) room) (Ok (length (rows_of n))) (Err NoRoom)
answer_of room (refused r) = Err (Refused r)

-- "Only 0 writes, and only what it counts": the lent numbers afterwards
abbrev pub buffer_after : List ℤ → WalkResult Node → List ℤ
buffer_after old (done n l st) =
    cond (leb (row_numbers * length (rows_of n)) (length old))
    (numbers_of (rows_of n) ++ drop (row_numbers * length (rows_of n)) old)
    old
buffer_after old (refused r) = old

-- bytes b as the description, context c, bytes s as the code, room for so many numbers; "Decoding takes a 32-bit address", a
unfoldable pub decode_of : List ℕ → (context address : ℕ) → List ℕ → ℕ → Result ℕ DecodeError
decode_of b c a s room = accepting (λ x. Err (Rejected x)) (λ d. answer_of room (instruction_of d c a s)) b (acceptance_of b)

-- the lent numbers afterwards
unfoldable pub rows_after : List ℕ → (context address : ℕ) → List ℕ → List ℤ → List ℤ
rows_after b c a s old = accepting (λ x. old) (λ d. buffer_after old (instruction_of d c a s)) b (acceptance_of b)

-- of an accepted description: the answer, and the lent numbers afterwards
pub record Decodes (d : Description) (c a : ℕ) (s : List ℕ) (old : List ℤ) (r : Result ℕ DecodeError) (new : List ℤ) : Type 0 where
  pub answer : r ≡ answer_of (length old) (instruction_of d c a s)
  pub buffer : new ≡ buffer_after old (instruction_of d c a s)

-- the answer's number in document 01's table ..
abbrev pub number_of : Result ℕ DecodeError → ℕ
number_of (Ok n) = 0
number_of (Err (Rejected x)) = rejection_number x
number_of (Err (Refused r)) = refusal_number r
number_of (Err NoRoom) = 9

-- .. and its values, unused ones 0
abbrev pub values_of : Result ℕ DecodeError → List ℕ
values_of (Ok n) = n ∷ 0 ∷ 0 ∷ 0 ∷ []
values_of (Err (Rejected x)) = rejection_values x
values_of (Err (Refused r)) = refusal_values r
values_of (Err NoRoom) = 0 ∷ 0 ∷ 0 ∷ 0 ∷ []
