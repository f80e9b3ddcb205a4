-- One definition for each record: what stands at a place, and with it the place behind, as the cursor hands it back.
use Rattle.std.specs.Prelude.{ℕ, ◌+◌, List}
use Rattle.format.specs.Bytes.{byte_at, u16_at, u32_at, u64_at}
use Rattle.format.specs.declared.Field.{Field}
use Rattle.format.specs.declared.Name.{Name}
use Rattle.format.specs.declared.Pattern.{Pattern}
use Rattle.format.specs.declared.Constructor.{Constructor}
use Rattle.format.specs.declared.Operand.{Operand}
use Rattle.format.specs.declared.Piece.{Piece}
use Rattle.format.specs.declared.Place.{Place}
use Rattle.format.specs.declared.Read.{Read}

-- "source, width, order, low, high, look (a byte each), first name (2)"
abbrev pub field_at : List ℕ → ℕ → Field
field_at b at =
    record {
      source = byte_at b at;
      width = byte_at b (at + 1);
      order = byte_at b (at + 2);
      low = byte_at b (at + 3);
      high = byte_at b (at + 4);
      look = byte_at b (at + 5);
      first = u16_at b (at + 6);
    }

-- "text offset (2), length (1)"
abbrev pub name_at : List ℕ → ℕ → Name
name_at b at = record { offset = u16_at b at; length = byte_at b (at + 2) }

-- "byte mask (8), byte value (8), context mask (4), context value (4)", of the constructor at this place
abbrev pub pattern_at : List ℕ → ℕ → Pattern
pattern_at b at =
    record {
      mask = u64_at b (at + 2);
      value = u64_at b (at + 10);
      contextmask = u32_at b (at + 18);
      contextvalue = u32_at b (at + 22);
    }

-- "table, minimum length, byte mask (8), byte value (8), context mask (4), context value (4), operand count, first operand (2), piece count, first piece (2)"
abbrev pub constructor_at : List ℕ → ℕ → Constructor
constructor_at b at =
    record {
      table = byte_at b at;
      minimum = byte_at b (at + 1);
      pattern = pattern_at b at;
      operands = record { first = u16_at b (at + 27); count = byte_at b (at + 26) };
      pieces = record { first = u16_at b (at + 30); count = byte_at b (at + 29) };
    }

-- "kind, index, anchor, offset"
abbrev pub operand_at : List ℕ → ℕ → Operand
operand_at b at =
    record { kind = byte_at b at; index = byte_at b (at + 1); anchor = byte_at b (at + 2); offset = byte_at b (at + 3) }

-- "kind, n, text offset (2)"
abbrev pub piece_at : List ℕ → ℕ → Piece
piece_at b at = record { kind = byte_at b at; n = byte_at b (at + 1); offset = u16_at b (at + 2) }

-- an expression is read by its place
abbrev pub place_at : List ℕ → ℕ → Place
place_at b at = record { at = at }

-- a record that takes so many bytes, read by a cursor
abbrev pub read_at : {A : Type 0} → (List ℕ → ℕ → A) → ℕ → List ℕ → ℕ → Read A
read_at reader size b at = record { value = reader b at; next = record { at = at + size } }
