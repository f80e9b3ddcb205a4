-- A field read alone: by its record, a context, and the code's bytes from the field's start on.
use Rattle.std.specs.Prelude.{ℕ, ◌*◌, Bool, cond, not, ◌&&◌, ◌||◌, List, eqb, leb, ltb, length}
use Rattle.format.specs.Numbers.{field_bytes}
use Rattle.format.specs.Record.{field_at}
use Rattle.format.specs.declared.Field.{Field}
use Rattle.fields.specs.Value.{value_of}

-- "width 1 to 4 bytes", "Low ≤ high < 8 × width", and the token's bytes are there
abbrev pub can_read : Field → List ℕ → Bool
can_read f s =
    leb f.width 4 && leb f.low f.high && ltb f.high (8 * f.width) && (not (eqb f.source 0) || leb f.width (length s))

-- stands for no value, since a value has at most 32 bits
abbrev pub unread : ℕ
unread = 18446744073709551615

unfoldable pub field_value : Field → ℕ → List ℕ → ℕ
field_value f c s = cond (can_read f s) (value_of f s c) unread

unfoldable pub record_value : List ℕ → ℕ → List ℕ → ℕ
record_value b c s = cond (leb field_bytes (length b)) (field_value (field_at b 0) c s) unread
