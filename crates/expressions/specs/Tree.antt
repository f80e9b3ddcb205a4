-- An expression as one writes it: its value, its steps, and the record that writes it.
use Rattle.std.specs.Prelude.{ℕ, zero, suc, ◌-◌, ◌/◌, ◌%◌, ◌^◌, Bool, true, cond, ◌&&◌, List, [], ◌∷◌, ◌++◌, ltb, ℤ, pos, negsuc, ◌+ℤ◌, ◌-ℤ◌, ◌*ℤ◌, length, get_or, replicate, Option, Some, None}
use Rattle.format.specs.Numbers.{most_steps, byte_values}
use Rattle.format.specs.Expression.{Expression, no_step, shifts}
use Rattle.format.specs.declared.Step.{Step}
use Rattle.whole_numbers.specs.Range.{inside}
use Rattle.whole_numbers.specs.Operators.{and_z, or_z, xor_z, left_z, right_z}
use Rattle.expressions.specs.Value.{Given}

-- "constants, the constructor's own field operands, the instruction's address, the address after it"
pub data Term : Type 0 where
  constant : ℤ → Term
  operand : ℕ → Term
  address address_after : Term

-- "plus, minus, times, and, or, exclusive or"
pub data Operator : Type 0 where
  plus minus times and or xor : Operator

-- "shifts by a constant"
pub data Direction : Type 0 where
  left right : Direction

pub data Tree : Type 0 where
  leaf : Term → Tree
  shift : Direction → ℕ → Tree → Tree
  pair : Operator → Tree → Tree → Tree

unfoldable pub term_in : Given → Term → ℤ
term_in g (constant z) = z
term_in g (operand n) = get_or g.operands (n - 1) (pos 0)
term_in g address = pos g.here
term_in g address_after = pos g.after

unfoldable pub applied : Operator → ℤ → ℤ → ℤ
applied plus x y = x +ℤ y
applied minus x y = x -ℤ y
applied times x y = x *ℤ y
applied and x y = and_z x y
applied or x y = or_z x y
applied xor x y = xor_z x y

unfoldable pub shifted : Direction → ℕ → ℤ → ℤ
shifted left k z = left_z z k
shifted right k z = right_z z k

unfoldable pub value_in : Given → Tree → ℤ
value_in g (leaf t) = term_in g t
value_in g (shift d k t) = shifted d k (value_in g t)
value_in g (pair o a b) = applied o (value_in g a) (value_in g b)

-- no value on the way is outside signed 64 bits
unfoldable pub inside_in : Given → Tree → Bool
inside_in g (leaf t) = inside (term_in g t)
inside_in g (shift d k t) = inside_in g t && inside (shifted d k (value_in g t))
inside_in g (pair o a b) = inside_in g a && inside_in g b && inside (applied o (value_in g a) (value_in g b))

unfoldable pub whole_in : Given → Tree → Option ℤ
whole_in g t = cond (inside_in g t) (Some (value_in g t)) None

-- "with any signed 64-bit constant", "shifts by a constant 0 to 63"; an operand's number is a byte
unfoldable pub term_fits : Term → Bool
term_fits (constant z) = inside z
term_fits (operand n) = ltb n byte_values
term_fits address = true
term_fits address_after = true

unfoldable pub fits : Tree → Bool
fits (leaf t) = term_fits t
fits (shift d k t) = ltb k shifts && fits t
fits (pair o a b) = fits a && fits b

-- two's complement
unfoldable pub word_of : ℤ → ℕ
word_of (pos n) = n
word_of (negsuc n) = 2 ^ 64 - suc n

unfoldable pub term_step : Term → Step
term_step (constant z) = record { kind = 0; value = word_of z }
term_step (operand n) = record { kind = 1; value = n }
term_step address = record { kind = 2; value = 0 }
term_step address_after = record { kind = 3; value = 0 }

unfoldable pub operator_step : Operator → Step
operator_step plus = record { kind = 4; value = 0 }
operator_step minus = record { kind = 5; value = 0 }
operator_step times = record { kind = 6; value = 0 }
operator_step and = record { kind = 7; value = 0 }
operator_step or = record { kind = 8; value = 0 }
operator_step xor = record { kind = 9; value = 0 }

unfoldable pub shift_step : Direction → ℕ → Step
shift_step left k = record { kind = 10; value = k }
shift_step right k = record { kind = 11; value = k }

-- "each term and each operator one (a shift with its constant too)", in postfix order
unfoldable pub steps_of : Tree → List Step
steps_of (leaf t) = term_step t ∷ []
steps_of (shift d k t) = steps_of t ++ (shift_step d k ∷ [])
steps_of (pair o a b) = steps_of a ++ (steps_of b ++ (operator_step o ∷ []))

-- empty steps behind them
unfoldable pub written : Tree → Expression
written t = record { count = length (steps_of t); steps = steps_of t ++ replicate (most_steps - length (steps_of t)) no_step }

-- a number's lowest bytes, the lowest first
unfoldable pub word_bytes : ℕ → ℕ → List ℕ
word_bytes zero x = []
word_bytes (suc n) x = x % 256 ∷ word_bytes n (x / 256)

unfoldable pub bytes_of_step : Step → List ℕ
bytes_of_step s = s.kind ∷ word_bytes 8 s.value

unfoldable pub bytes_of_steps : List Step → List ℕ
bytes_of_steps [] = []
bytes_of_steps (s ∷ l) = bytes_of_step s ++ bytes_of_steps l

-- the record
unfoldable pub bytes_of : Expression → List ℕ
bytes_of e = e.count ∷ bytes_of_steps e.steps
