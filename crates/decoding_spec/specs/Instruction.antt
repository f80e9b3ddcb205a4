-- The instruction at an address: the walk's tree with the values of its computed operands, which need the root's length.
use Rattle.std.specs.Prelude.{ℕ, ◌+◌, ◌-◌, List, [], ◌∷◌, ℤ, pos, get_or, Option, Some, None}
use Rattle.format.specs.Description.{Description, no_field}
use Rattle.format.specs.Expression.{no_expression}
use Rattle.expressions.specs.Value.{given, value_of}
use Rattle.decoding_spec.specs.Tree.{Node, Nodes, built, numbered, named, computed, none, more}
use Rattle.decoding_spec.specs.Walk.{Result, done, refused, and_then, walked_of}
use Rattle.decoding_spec.specs.declared.State.{State}
use Rattle.decoding_spec.specs.declared.Refusal.TheVariants.{ValueOutside}

-- with its values; or the place of the first computed operand with a value on the way outside signed 64 bits
pub data Valued (A : Type 0) : Type 0 where
  valued : A → Valued A
  outside : (place : ℕ) → Valued A

abbrev pub where_inside : {A B : Type 0} → Valued A → (A → Valued B) → Valued B
where_inside (valued a) rest = rest a
where_inside (outside p) rest = outside p

abbrev pub computed_as : ℕ → ℕ → Option ℤ → Valued Node
computed_as i s (Some v) = valued (computed i s v)
computed_as i s None = outside s

module _ (d : Description) where
  -- "A field counts as its row's value, a name field as its bits"; no other operand is named
  unfoldable pub counts_as : Node → ℤ
  counts_as (built k s l f) = pos 0
  counts_as (numbered i s v) = v
  counts_as (named i s n) = pos (n - (get_or d.fields i no_field).first)
  counts_as (computed i s v) = pos 0

  unfoldable pub counts_of : Nodes → List ℤ
  counts_of none = []
  counts_of (more n f) = counts_as n ∷ counts_of f

  -- the instruction's address, and "the address after it"
  module _ (here after : ℕ) where
    -- what expression i comes to, where its user's operands count as these
    abbrev pub expression_value : List ℤ → ℕ → Option ℤ
    expression_value operands i = value_of (given operands here after) (get_or d.expressions i no_expression)

    -- a part of a constructor whose operands count as these, with its values: "first in walk order"
    unfoldable mutual
      pub with_values : List ℤ → Node → Valued Node
      with_values operands (built k s l f) = where_inside (with_values_all (counts_of f) f) λ f. valued (built k s l f)
      with_values operands (numbered i s v) = valued (numbered i s v)
      with_values operands (named i s n) = valued (named i s n)
      with_values operands (computed i s v) = computed_as i s (expression_value operands i)

      pub with_values_all : List ℤ → Nodes → Valued Nodes
      with_values_all operands none = valued none
      with_values_all operands (more n f) =
          where_inside (with_values operands n) λ n. where_inside (with_values_all operands f) λ f. valued (more n f)

abbrev pub ended : ℕ → State → Valued Node → Result Node
ended l st (valued n) = done n l st
ended l st (outside p) = refused (ValueOutside p)

-- "13 is tested at the root's end, after 8"; the address after the instruction is its own plus the root's length
unfoldable pub completed : Description → ℕ → Result Node → Result Node
completed d here r = and_then r λ n l st. ended l st (with_values d here (here + l) [] n)

unfoldable pub instruction_of : Description → (context address : ℕ) → List ℕ → Result Node
instruction_of d c here s = completed d here (walked_of d c s)
