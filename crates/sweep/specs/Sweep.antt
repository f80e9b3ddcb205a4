-- "Sweep: from byte 0, rows of four 64-bit numbers: start, length, answer, root constructor."
use Rattle.std.specs.Prelude.{ℕ, zero, suc, ◌+◌, ◌-◌, ◌*◌, ◌/◌, cond, List, [], ◌∷◌, ◌++◌, leb, ℤ, pos, length, drop, Option, Some, None, Result, Ok, Err}
use Rattle.alignment.specs.Alignment.{is_alignment, is_multiple, gap_length, no_multiple}
use Rattle.format.specs.Numbers.{sweep_numbers}
use Rattle.format.specs.Description.{Description}
use Rattle.acceptance.specs.Acceptance.{acceptance_of, accepting, rejection_number, rejection_values}
use Rattle.decoding_spec.specs.Tree.{Node, built, numbered, named, computed}
use Rattle.decoding_spec.specs.Walk.{Result as WalkResult, done, refused}
use Rattle.decoding_spec.specs.Instruction.{instruction_of}
use Rattle.decoding_spec.specs.Refusals.{refusal_number, is_short}
use Rattle.decoding_spec.specs.declared.Refusal.{Refusal}
use Rattle.sweep.specs.declared.End.{End}
use Rattle.sweep.specs.declared.End.TheVariants as end
use Rattle.sweep.specs.declared.Row.{Row}
use Rattle.sweep.specs.declared.Swept.{Swept}
use Rattle.sweep.specs.declared.SweepError.{SweepError}
use Rattle.sweep.specs.declared.SweepError.TheVariants.{Rejected, NoAlignment}

pub record SweepRow : Type 0 where
  pub start : ℕ
  pub length : ℕ
  pub answer : ℕ
  pub constructor : ℕ

-- the rows written, why it ended and the next byte
pub record Sweep : Type 0 where
  pub rows : List SweepRow
  pub why : End
  pub next : ℕ

-- the constructor of a tree's root
abbrev pub root_number : Node → ℕ
root_number (built k s l f) = k
root_number (numbered i s v) = 0
root_number (named i s n) = 0
root_number (computed i s v) = 0

-- the constructor of a gap
abbrev pub no_root : ℕ
no_root = 65535

-- a place that has a row: its length, answer and root constructor
abbrev pub row_of : (length answer constructor : ℕ) → Option Row
row_of l a k = Some (record { length = l; answer = a; constructor = k })

-- "Refusals 3 to 8 give a gap row"; 13: "in a sweep it makes a gap"; of this length
abbrev pub gap : ℕ → Refusal → Option Row
gap long r = cond (is_short r) None (row_of long (refusal_number r) no_root)

-- a place's row, or that the code is short; a gap would have this length
abbrev pub step_by : ℕ → WalkResult Node → Option Row
step_by long (done n l st) = row_of l 0 (root_number n)
step_by long (refused r) = gap long r

-- at the address `here`, with so many bytes left, which decode so: "A place that is no multiple is a gap with answer 14, tested before
-- decoding. All multiples are of the address"
abbrev pub aligned_step : (alignment here left : ℕ) → WalkResult Node → Option Row
aligned_step n here left r =
    cond (is_multiple n here) (step_by (gap_length n here left) r) (row_of (gap_length n here left) no_multiple no_root)

-- "each row is that place's decoding": of the bytes from there to the end of the code; "Decoding takes a 32-bit address, a sweep that of
-- its byte 0", a; "no address wraps"
unfoldable pub step_at : Description → (context address alignment : ℕ) → List ℕ → ℕ → Option Row
step_at d c a n s at = aligned_step n (a + at) (length s - at) (instruction_of d c (a + at) (drop at s))

-- some rows, then a sweep
abbrev pub joined : List SweepRow → Sweep → Sweep
joined rs w = record { rows = rs ++ w.rows; why = w.why; next = w.next }

-- no more rows
abbrev pub end_at : End → ℕ → Sweep
end_at why at = record { rows = []; why = why; next = at }

-- "start, length, answer, root constructor"
abbrev pub row_at : (at length answer constructor : ℕ) → SweepRow
row_at at l a k = record { start = at; length = l; answer = a; constructor = k }

-- the row of a place, then the rest of the sweep; or its end
abbrev pub row_then : ℕ → Option Row → (ℕ → Sweep) → Sweep
row_then at (Some r) rest = joined (row_at at r.length r.answer r.constructor ∷ []) (rest (at + r.length))
row_then at None rest = end_at end.Short at

-- "It ends, tested in this order before each row, with "used" at the input's end, "full" when no whole row is left, or "short"";
-- "A done instruction moves on by its length." Over so many bytes, by the step at each place, with room for so many rows.
unfoldable pub sweep_by : (ℕ → Option Row) → (size room at : ℕ) → Sweep
sweep_by step size zero at = cond (leb size at) (end_at end.Used at) (end_at end.Full at)
sweep_by step size (suc room) at = cond (leb size at) (end_at end.Used at) (row_then at (step at) (sweep_by step size room))

abbrev pub sweep_from : Description → (context address alignment : ℕ) → List ℕ → (room at : ℕ) → Sweep
sweep_from d c a n s = sweep_by (step_at d c a n s) (length s)

-- "rows of four 64-bit numbers"
unfoldable pub numbers_of : List SweepRow → List ℤ
numbers_of [] = []
numbers_of (r ∷ rs) = pos r.start ∷ pos r.length ∷ pos r.answer ∷ pos r.constructor ∷ numbers_of rs

-- of an accepted description, with so many numbers lent
unfoldable pub sweep_in : Description → (context address alignment : ℕ) → List ℕ → ℕ → Sweep
sweep_in d c a n s numbers = sweep_from d c a n s (numbers / sweep_numbers) 0

-- what is answered of a sweep: "it returns the rows written and the next byte"
abbrev pub answer_of : Sweep → Swept
answer_of w = record { why = w.why; rows = length w.rows; next = w.next }

-- "a sweep writes just the rows it returns, however it ends": the lent numbers with these rows
abbrev pub buffer_with : List SweepRow → List ℤ → List ℤ
buffer_with rs old = numbers_of rs ++ drop (sweep_numbers * length rs) old

-- bytes b as the description, context c, address a of byte 0, alignment n, bytes s as the code, so many numbers lent; "The sweep takes
-- 1, 2, 4 or 8 and refuses any other with 12 and the number."
unfoldable pub sweep_of : List ℕ → (context address alignment : ℕ) → List ℕ → ℕ → Result Swept SweepError
sweep_of b c a n s numbers =
    accepting (λ x. Err (Rejected x)) (λ d. cond (is_alignment n) (Ok (answer_of (sweep_in d c a n s numbers))) (Err (NoAlignment n))) b (acceptance_of b)

-- the lent numbers afterwards
unfoldable pub buffer_after : List ℕ → (context address alignment : ℕ) → List ℕ → List ℤ → List ℤ
buffer_after b c a n s old =
    accepting (λ x. old) (λ d. cond (is_alignment n) (buffer_with (sweep_in d c a n s (length old)).rows old) old) b (acceptance_of b)

-- the ends, numbered
abbrev pub end_number : End → ℕ
end_number end.Used = 0
end_number end.Full = 1
end_number end.Short = 2

-- the answer's number in document 01's table: "a sweep's end" is an answer ..
abbrev pub number_of : Result Swept SweepError → ℕ
number_of (Ok w) = 0
number_of (Err (Rejected x)) = rejection_number x
number_of (Err (NoAlignment n)) = 12

-- .. and its values, unused ones 0
abbrev pub values_of : Result Swept SweepError → List ℕ
values_of (Ok w) = end_number w.why ∷ w.rows ∷ w.next ∷ 0 ∷ []
values_of (Err (Rejected x)) = rejection_values x
values_of (Err (NoAlignment n)) = n ∷ 0 ∷ 0 ∷ 0 ∷ []
