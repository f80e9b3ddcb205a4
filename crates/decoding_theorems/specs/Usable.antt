-- What the walk uses of a well-formed description.
use Rattle.std.specs.Prelude.{ℕ, ◌+◌, ◌≤◌, ◌<◌, true, ◌≡◌, length, get_or}
use Rattle.format.specs.Numbers.{operands_each, tables}
use Rattle.format.specs.Description.{Description}
use Rattle.format.specs.Expression.{no_expression, names_only}
use Rattle.format.specs.Rules.{operand_of}
use Rattle.expressions.specs.Value.{numbered}
use Rattle.format.specs.declared.Constructor.{Constructor}
use Rattle.format.specs.declared.Operand.{Operand}

-- an operand's field, table or expression can be looked up, and the expression names operands that a constructor may have
pub record Placed (d : Description) (x : Operand) : Type 0 where
  pub field : x.kind ≡ 0 → x.index < length d.fields
  pub expression : x.kind ≡ 2 → x.index < length d.expressions
  pub names : x.kind ≡ 2 → names_only (numbered operands_each) (get_or d.expressions x.index no_expression) ≡ true
  pub table : (x.kind ≡ 0 → ⊥) → (x.kind ≡ 2 → ⊥) → x.index < tables

-- a constructor's operands lie in their section, each anchor is an earlier operand's end
pub record Usable (d : Description) (k : Constructor) : Type 0 where
  pub few : k.operands.count ≤ operands_each
  pub inside : k.operands.first + k.operands.count ≤ length d.operands
  pub anchored : (o : ℕ) → o < k.operands.count → (operand_of d k o).anchor ≤ o
  pub placed : (o : ℕ) → o < k.operands.count → Placed d (operand_of d k o)
