-- A field's bits as a number, one bit at a time. s are the bytes from the field's start on, c is the context.
use Rattle.std.specs.Prelude.{ℕ, zero, suc, ◌+◌, ◌-◌, ◌*◌, ◌/◌, ◌%◌, ◌^◌, ◌≤◌, ◌<◌, cond, List, eqb, get_or}
use Rattle.bits.specs.Bits.{bit}
use Rattle.format.specs.Rules.{bits_of}
use Rattle.format.specs.declared.Field.{Field}

-- byte j of the field's token, its lowest being byte 0: "order 0 little, 1 big"
unfoldable pub token_byte : Field → List ℕ → ℕ → ℕ
token_byte f s j = cond (eqb f.order 0) (get_or s j 0) (get_or s (f.width - 1 - j) 0)

-- bit k of what a field reads: "source 0 is the instruction .., source 1 the context", "bit 0 is the lowest"
unfoldable pub source_bit : Field → List ℕ → ℕ → ℕ → ℕ
source_bit f s c k = cond (eqb f.source 0) (bit (token_byte f s (k / 8)) (k % 8)) (bit c k)

-- the number whose bits 0 to n - 1 are b 0 to b (n - 1)
unfoldable pub of_bits : ℕ → (ℕ → ℕ) → ℕ
of_bits zero b = 0
of_bits (suc n) b = of_bits n b + b n * 2 ^ n

-- bit i of the value is bit low + i of what the field reads, up to bit high
unfoldable pub value_of : Field → List ℕ → ℕ → ℕ
value_of f s c = of_bits (bits_of f) (λ i. source_bit f s c (f.low + i))

-- "width 1 to 4 bytes", "Low ≤ high < 8 × width": what reading asks of a field
pub record Readable (f : Field) : Type 0 where
  pub narrow : f.width ≤ 4
  pub some : f.low ≤ f.high
  pub within : f.high < 8 * f.width
