-- Section 7: "small expressions: constants, the constructor's own field operands, the instruction's address, the address after it, and
-- plus, minus, times, and, or, exclusive or, and shifts by a constant 0 to 63", "of at most 16 steps, each term and each operator one".
-- The steps stand in postfix order: each takes values from a stack and leaves one there.
use Rattle.std.specs.Prelude.{ℕ, zero, suc, ◌+◌, ◌-◌, ◌*◌, Bool, cond, ◌&&◌, ◌||◌, not, List, [], leb, ltb, eqb, get_or}
use Rattle.lists.specs.Below.{all_below}
use Rattle.lists.specs.Tab.{tab}
use Rattle.format.specs.Bytes.{byte_at, u64_at}
use Rattle.format.specs.Numbers.{step_bytes, most_steps, byte_values}
use Rattle.format.specs.declared.Step.{Step}

-- a step's kind: a term (constant, operand, address, address after it), an operator on two values, a shift by a constant
abbrev pub constant_kind : ℕ
constant_kind = 0

abbrev pub operand_kind : ℕ
operand_kind = 1

abbrev pub first_operator : ℕ
first_operator = 4

abbrev pub first_shift : ℕ
first_shift = 10

abbrev pub kinds : ℕ
kinds = 12

-- "shifts by a constant 0 to 63"
abbrev pub shifts : ℕ
shifts = 64

-- "kind (1), value (8)"
abbrev pub step_at : List ℕ → ℕ → Step
step_at b at = record { kind = byte_at b at; value = u64_at b (at + 1) }

abbrev pub no_step : Step
no_step = record { kind = 0; value = 0 }

-- how many of its steps count, and all sixteen
pub record Expression : Type 0 where
  pub count : ℕ
  pub steps : List Step

-- "step count (1), then 16 steps of 9 bytes"
unfoldable pub expression_at : List ℕ → ℕ → Expression
expression_at b at = record { count = byte_at b at; steps = tab (λ i. step_at b (at + 1 + step_bytes * i)) most_steps }

abbrev pub no_expression : Expression
no_expression = record { count = 0; steps = [] }

abbrev pub step_of : Expression → ℕ → Step
step_of e i = get_or e.steps i no_step

-- how many values a step takes from the stack
abbrev pub takes : ℕ → ℕ
takes kind = cond (ltb kind first_operator) 0 (cond (ltb kind first_shift) 2 1)

-- how many values are on the stack after so many steps
unfoldable pub depth_after : Expression → ℕ → ℕ
depth_after e zero = 0
depth_after e (suc i) = suc (depth_after e i - takes (step_of e i).kind)

-- the kind is one of those above, and its value one that it can have: a constant any 64 bits, an operand's number a byte, a shift below
-- 64, all others 0
unfoldable pub step_value_ok : Step → Bool
step_value_ok s =
    eqb s.kind constant_kind
    || (eqb s.kind operand_kind && ltb s.value byte_values)
    || (ltb operand_kind s.kind && ltb s.kind first_shift && eqb s.value 0)
    || (leb first_shift s.kind && ltb s.kind kinds && ltb s.value shifts)

-- .. and it finds the values that it takes
unfoldable pub step_ok : ℕ → Step → Bool
step_ok depth s = step_value_ok s && leb (takes s.kind) depth

-- each step finds what it takes, and one value is left
unfoldable pub steps_ok : Expression → Bool
steps_ok e = all_below e.count (λ i. step_ok (depth_after e i) (step_of e i)) && eqb (depth_after e e.count) 1

-- the steps that do not count are zero bytes
unfoldable pub rest_empty : Expression → Bool
rest_empty e = all_below most_steps (λ i. ltb i e.count || (eqb (step_of e i).kind 0 && eqb (step_of e i).value 0))

-- "a record is bad only where it writes none"
unfoldable pub writes_expression : Expression → Bool
writes_expression e = leb 1 e.count && leb e.count most_steps && steps_ok e && rest_empty e

-- a step names operand n: its number, from 1
abbrev pub names_operand : Step → Bool
names_operand s = eqb s.kind operand_kind

-- every operand that the expression names is one of these
unfoldable pub names_only : (ℕ → Bool) → Expression → Bool
names_only allowed e = all_below e.count (λ i. not (names_operand (step_of e i)) || allowed (step_of e i).value)
