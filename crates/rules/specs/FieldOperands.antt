-- A constructor's field operands as the bits of a word, gathered once for all that an expression names.
use Rattle.std.specs.Prelude.{ℕ, ◌+◌, Bool, cond, ◌≡◌}
use Rattle.bits.specs.Bits.{is_set}
use Rattle.format.specs.Description.{Description}
use Rattle.format.specs.Rules.{field_operand}
use Rattle.format.specs.declared.Constructor.{Constructor}

-- a word with this bit, which was not set
abbrev pub with_bit : ℕ → ℕ → Bool → ℕ
with_bit word bit set = cond set (word + bit) word

-- bit n is set exactly where operand n is a field operand
pub record FieldBits (d : Description) (c : Constructor) (word : ℕ) : Type 0 where
  pub bits : (n : ℕ) → is_set word n ≡ field_operand d c n
