-- The value of an expression: its steps on a stack of whole numbers, without bound; afterwards every one on the way must have been inside.
use Rattle.std.specs.Prelude.{ℕ, zero, suc, ◌+◌, ◌-◌, ◌^◌, ◌≤◌, Bool, true, cond, ◌&&◌, List, [], ◌∷◌, ◌≡◌, leb, ltb, eqb, ℤ, pos, ◌+ℤ◌, ◌-ℤ◌, ◌*ℤ◌, length, get_or, drop, Option, Some, None}
use Rattle.std.proofs.Math.IntN.{sub_ℕ}
use Rattle.lists.specs.Below.{all_below}
use Rattle.format.specs.Numbers.{expression_bytes}
use Rattle.format.specs.Expression.{Expression, expression_at, step_of, takes, constant_kind, operand_kind, first_operator, writes_expression, names_only}
use Rattle.format.specs.declared.Step.{Step}
use Rattle.whole_numbers.specs.Range.{inside}
use Rattle.whole_numbers.specs.Operators.{and_z, or_z, xor_z, left_z, right_z}

-- what an expression is evaluated on: the numbers that its user's operands count as, "the instruction's address, the address after it"
pub record Given : Type 0 where
  pub operands : List ℤ
  pub here : ℕ
  pub after : ℕ

abbrev pub given : List ℤ → ℕ → ℕ → Given
given operands here after = record { operands = operands; here = here; after = after }

-- "any signed 64-bit constant": eight bytes in two's complement
unfoldable pub constant_of : ℕ → ℤ
constant_of word = cond (ltb word (2 ^ 63)) (pos word) (sub_ℕ word (2 ^ 64))

-- kinds 0 to 3: a constant, operand `value` (from 1), the instruction's address, the address after it
unfoldable pub term_of : Given → Step → ℤ
term_of g s =
    cond (eqb s.kind constant_kind) (constant_of s.value)
    (cond (eqb s.kind operand_kind) (get_or g.operands (s.value - 1) (pos 0))
    (cond (eqb s.kind 2) (pos g.here)
    (pos g.after)))

-- kinds 4 to 11: "plus, minus, times, and, or, exclusive or, and shifts by a constant"; y is the topmost value, x the one below it
unfoldable pub operator_of : Step → ℤ → ℤ → ℤ
operator_of s x y =
    cond (eqb s.kind 4) (x +ℤ y)
    (cond (eqb s.kind 5) (x -ℤ y)
    (cond (eqb s.kind 6) (x *ℤ y)
    (cond (eqb s.kind 7) (and_z x y)
    (cond (eqb s.kind 8) (or_z x y)
    (cond (eqb s.kind 9) (xor_z x y)
    (cond (eqb s.kind 10) (left_z y s.value)
    (right_z y s.value)))))))

-- what a step leaves on the stack
unfoldable pub made_of : Given → Step → ℤ → ℤ → ℤ
made_of g s x y = cond (ltb s.kind first_operator) (term_of g s) (operator_of s x y)

-- the stack after a step, the topmost value first
unfoldable pub step_on : Given → Step → List ℤ → List ℤ
step_on g s stack = made_of g s (get_or stack 1 (pos 0)) (get_or stack 0 (pos 0)) ∷ drop (takes s.kind) stack

-- .. and after so many
unfoldable pub stack_after : Given → Expression → ℕ → List ℤ
stack_after g e zero = []
stack_after g e (suc i) = step_on g (step_of e i) (stack_after g e i)

abbrev pub top_after : Given → Expression → ℕ → ℤ
top_after g e i = get_or (stack_after g e i) 0 (pos 0)

-- "Values are whole numbers ..; any on the way outside signed 64 bits is refused": each step's value is the topmost one after it
unfoldable pub value_of : Given → Expression → Option ℤ
value_of g e = cond (all_below e.count (λ i. inside (top_after g e (suc i)))) (Some (top_after g e e.count)) None

-- an operand's number, from 1 to so many
abbrev pub numbered : ℕ → ℕ → Bool
numbered count n = leb 1 n && leb n count

-- what an evaluation with so many operands asks of the record at a place
pub record Usable (b : List ℕ) (at : ℕ) (operands : ℕ) : Type 0 where
  pub within : at + expression_bytes ≤ length b
  pub right : writes_expression (expression_at b at) ≡ true
  pub names : names_only (numbered operands) (expression_at b at) ≡ true
