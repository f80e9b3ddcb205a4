-- The program's input and output, and windows of lines, as lists of bytes.
use Rattle.std.specs.Prelude.{ℕ, zero, suc, ◌+◌, ◌-◌, min, Bool, true, false, cond, List, [], ◌∷◌, ◌++◌, leb, eqb, length, take, drop, Result, Ok, Err}
use Rattle.alignment.specs.Alignment.{is_alignment}
use Rattle.format.specs.Bytes.{u16_at}
use Rattle.format.specs.Description.{Description}
use Rattle.acceptance.specs.Acceptance.{acceptance_of, accepting, rejection_number, rejection_values}
use Rattle.acceptance.specs.declared.Rejection.{Rejection}
use Rattle.printing.specs.Writing.{over}
use Rattle.listing_parts.specs.Parts.{fault_text}
use Rattle.listing_lines.specs.Line.{line_at, next_at}
use Rattle.listing_text.specs.declared.Part.{Part}
use Rattle.listing_text.specs.declared.Split.{Split}
use Rattle.listing_text.specs.declared.ListError.{ListError}
use Rattle.listing_text.specs.declared.ListError.TheVariants.{Rejected, NoAlignment}

-- ---- the whole listing

-- the lines of the code s, whose byte 0 has this address, with alignment n, from a place on, so many at most; each moves on by a byte at least
unfoldable pub lines_from : Description → (c address n : ℕ) → List ℕ → ℕ → ℕ → List ℕ
lines_from d c address n s zero at = []
lines_from d c address n s (suc most) at = cond (leb (length s) at) [] (line_at d c address n s at ++ lines_from d c address n s most (next_at d c address n s at))

-- so there are no more lines than bytes
unfoldable pub lines_of : Description → (c address n : ℕ) → List ℕ → ℕ → List ℕ
lines_of d c address n s at = lines_from d c address n s (length s) at

-- ---- as many whole lines as fit

-- the lines' bytes, how many lines there are, the next place, and whether the room is what ended them
pub record Window : Type 0 where
  pub text : List ℕ
  pub lines : ℕ
  pub next : ℕ
  pub full : Bool

abbrev pub no_lines : ℕ → Bool → Window
no_lines at full = record { text = []; lines = 0; next = at; full = full }

abbrev pub before : List ℕ → Window → Window
before line w = record { text = line ++ w.text; lines = 1 + w.lines; next = w.next; full = w.full }

-- from a place on, with room for so many bytes
unfoldable pub window_from : Description → (c address n : ℕ) → List ℕ → (most room at : ℕ) → Window
window_from d c address n s zero room at = no_lines at false
window_from d c address n s (suc most) room at =
    cond (leb (length s) at)
    (no_lines at false)
    (cond (leb (length (line_at d c address n s at)) room)
    (before (line_at d c address n s at) (window_from d c address n s most (room - length (line_at d c address n s at)) (next_at d c address n s at)))
    (no_lines at true))

unfoldable pub window_of : Description → (c address n : ℕ) → List ℕ → (room at : ℕ) → Window
window_of d c address n s room at = window_from d c address n s (length s) room at

abbrev pub part_of : Window → Part
part_of w = record { bytes = length w.text; lines = w.lines; next = w.next; full = w.full }

-- bytes b as the description, context c, the address of byte 0, alignment n, bytes s as the code, from a place on, room for so many
-- bytes; an alignment is refused as a sweep refuses it
unfoldable pub list_of : List ℕ → (c address n : ℕ) → List ℕ → (from room : ℕ) → Result Part ListError
list_of b c address n s from room =
    accepting (λ x. Err (Rejected x)) (λ d. cond (is_alignment n) (Ok (part_of (window_of d c address n s room from))) (Err (NoAlignment n))) b (acceptance_of b)

-- the lent bytes afterwards
unfoldable pub list_after : List ℕ → (c address n : ℕ) → List ℕ → ℕ → List ℕ → List ℕ
list_after b c address n s from old =
    accepting (λ x. old) (λ d. cond (is_alignment n) (over (window_of d c address n s (length old) from).text old) old) b (acceptance_of b)

-- the answer's number, and its values: bytes written, lines written, next place, 1 where the text is full
abbrev pub flag : Bool → ℕ
flag true = 1
flag false = 0

abbrev pub number_of : Result Part ListError → ℕ
number_of (Ok p) = 0
number_of (Err (Rejected x)) = rejection_number x
number_of (Err (NoAlignment n)) = 12

abbrev pub values_of : Result Part ListError → List ℕ
values_of (Ok p) = p.bytes ∷ p.lines ∷ p.next ∷ flag p.full ∷ []
values_of (Err (Rejected x)) = rejection_values x
values_of (Err (NoAlignment n)) = n ∷ 0 ∷ 0 ∷ 0 ∷ []

-- ---- the program

-- "at most 4,096 bytes of code"
abbrev pub most_code : ℕ
most_code = 4096

-- "The program reads a two-byte length, a description, then at most 4,096 bytes of code, and ignores the rest"; "Input that ends
-- early is judged by the description bytes there are."
unfoldable pub description_part : List ℕ → List ℕ
description_part input = take (u16_at input 0) (drop 2 input)

unfoldable pub code_part : List ℕ → List ℕ
code_part input = take most_code (drop (2 + u16_at input 0) input)

-- where the two parts stand: the description from start to end, the code from there to last
unfoldable pub split_of : List ℕ → Split
split_of input =
    record {
      start = min 2 (length input);
      end = min (2 + u16_at input 0) (length input);
      last = min (2 + u16_at input 0 + most_code) (length input);
    }

-- "A bad description prints one line": from place 0 that line, behind it nothing
unfoldable pub fault_from : Rejection → ℕ → List ℕ
fault_from x at = cond (eqb at 0) (fault_text x) []

unfoldable pub fault_window : Rejection → (room at : ℕ) → Window
fault_window x room at =
    cond (eqb at 0)
    (cond (leb (length (fault_text x)) room) (before (fault_text x) (no_lines 1 false)) (no_lines 0 true))
    (no_lines at false)

-- what is left to print from a place on; "context 0", "a sweep that of its byte 0 (the listing 0)", "the listing keeps alignment 1"
unfoldable pub listing_from : List ℕ → ℕ → List ℕ
listing_from input at =
    accepting (λ x. fault_from x at) (λ d. lines_of d 0 0 1 (code_part input) at) (description_part input) (acceptance_of (description_part input))

-- the whole output
abbrev pub listing_of : List ℕ → List ℕ
listing_of input = listing_from input 0

-- as many whole lines of it as fit
unfoldable pub input_window : List ℕ → (room at : ℕ) → Window
input_window input room at =
    accepting (λ x. fault_window x room at) (λ d. window_of d 0 0 1 (code_part input) room at) (description_part input) (acceptance_of (description_part input))
