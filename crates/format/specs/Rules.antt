-- What makes a record faulty: document 01, "The description", a definition for each rule.
use Rattle.std.specs.Prelude.{ℕ, ◌+◌, ◌-◌, ◌*◌, ◌^◌, Bool, ◌&&◌, ◌||◌, not, List, leb, ltb, eqb, length, get_or}
use Rattle.std.specs.Int.Bits.{bit_and}
use Rattle.lists.specs.Below.{all_below, any_below}
use Rattle.format.specs.Numbers.{widest, names_look, names_bits, first_letter, last_letter, tables, longest, operands_each, pieces_each, farthest}
use Rattle.format.specs.Description.{Description, no_field, no_constructor, no_operand, no_piece}
use Rattle.format.specs.Expression.{no_expression, writes_expression, names_only}
use Rattle.format.specs.declared.Field.{Field}
use Rattle.format.specs.declared.Name.{Name}
use Rattle.format.specs.declared.Pattern.{Pattern}
use Rattle.format.specs.declared.Range.{Range}
use Rattle.format.specs.declared.Constructor.{Constructor}
use Rattle.format.specs.declared.Operand.{Operand}
use Rattle.format.specs.declared.Piece.{Piece}

-- ---- fields

-- "source 0 is the instruction (width 1 to 4 bytes; order 0 little, 1 big), source 1 the context (width 4, order 0)"
abbrev pub source_ok : Field → Bool
source_ok f =
    (eqb f.source 0 && leb 1 f.width && leb f.width widest && leb f.order 1)
    || (eqb f.source 1 && eqb f.width widest && eqb f.order 0)

-- "Low ≤ high < 8 × width"
abbrev pub bits_ok : Field → Bool
bits_ok f = leb f.low f.high && ltb f.high (8 * f.width)

-- the field's number of bits
abbrev pub bits_of : Field → ℕ
bits_of f = f.high + 1 - f.low

-- "Look 4 has at most 8 bits and 2^bits names, all present, from its first name; other looks have first name 0."
abbrev pub look_ok : ℕ → Field → Bool
look_ok names f =
    (ltb f.look names_look && eqb f.first 0)
    || (eqb f.look names_look && leb (bits_of f) names_bits && leb (f.first + 2 ^ bits_of f) names)

unfoldable pub field_ok : ℕ → Field → Bool
field_ok names f = source_ok f && bits_ok f && look_ok names f

-- ---- names

-- "offset plus length is at most the text's count"
abbrev pub name_ok : ℕ → Name → Bool
name_ok letters n = leb (n.offset + n.length) letters

-- ---- constructors

abbrev pub table_at : Description → ℕ → ℕ
table_at d i = (get_or d.constructors i no_constructor).table

-- "one that has a constructor", and "A table of a description is one that has a constructor"
unfoldable pub has_table : Description → ℕ → Bool
has_table d t = any_below (length d.constructors) (λ i. eqb (table_at d i) t)

-- "table 0 to 63, never below the record before"
abbrev pub table_ok : Description → ℕ → Bool
table_ok d i = ltb (table_at d i) tables && (eqb i 0 || leb (table_at d (i - 1)) (table_at d i))

-- "minimum length 0 to 16 and past the last byte with a masked bit": the mask has no bit at or past byte `minimum`
abbrev pub minimum_ok : Constructor → Bool
minimum_ok c = leb c.minimum longest && ltb c.pattern.mask (2 ^ (8 * c.minimum))

-- "no value bit outside its mask"
abbrev pub value_ok : Pattern → Bool
value_ok p =
    eqb (bit_and p.value p.mask) p.value && eqb (bit_and p.contextvalue p.contextmask) p.contextvalue

-- "at most 8 operands and 16 pieces, inside their sections"
abbrev pub range_ok : ℕ → ℕ → Range → Bool
range_ok most count r = leb r.count most && leb (r.first + r.count) count

-- the constructor's operand o + 1, since the first is 1
abbrev pub operand_of : Description → Constructor → ℕ → Operand
operand_of d c o = get_or d.operands (c.operands.first + o) no_operand

-- "A table operand names a lower number than its user's table, one that has a constructor."
abbrev pub table_fits : Description → Constructor → Operand → Bool
table_fits d c x = not (eqb x.kind 1) || (ltb x.index c.table && has_table d x.index)

-- "Anchor 0 is the constructor's start, j the end of the constructor's operand j, which must come earlier (first is 1)."
abbrev pub anchor_fits : ℕ → Operand → Bool
anchor_fits o x = ltb x.anchor (o + 1)

-- operand n of the constructor, the first is 1, is a field operand
unfoldable pub field_operand : Description → Constructor → ℕ → Bool
field_operand d c n = leb 1 n && leb n c.operands.count && eqb (operand_of d c (n - 1)).kind 0

-- "One that names an operand which is no field operand of its user is the constructor's fault"; what writes no expression names none
unfoldable pub expression_fits : Description → Constructor → Operand → Bool
expression_fits d c x =
    let e = get_or d.expressions x.index no_expression in
    not (eqb x.kind 2) || not (writes_expression e) || names_only (field_operand d c) e

-- "Faults that depend on the user (a table operand's number, an anchor's j ..) belong to the constructor"
unfoldable pub operand_fits : Description → Constructor → ℕ → Bool
operand_fits d c o =
    anchor_fits o (operand_of d c o) && table_fits d c (operand_of d c o) && expression_fits d c (operand_of d c o)

abbrev pub piece_of : Description → Constructor → ℕ → Piece
piece_of d c q = get_or d.pieces (c.pieces.first + q) no_piece

-- the constructor's piece q, from 0, shows its operand n
unfoldable pub shows : Description → Constructor → ℕ → ℕ → Bool
shows d c n q = eqb (piece_of d c q).kind 1 && eqb (piece_of d c q).n n

-- "kind 1 is operand n (1 to the count)", "no operand shown twice"
unfoldable pub piece_fits : Description → Constructor → ℕ → Bool
piece_fits d c q =
    not (eqb (piece_of d c q).kind 1)
    || (leb 1 (piece_of d c q).n && leb (piece_of d c q).n c.operands.count
    && not (any_below q (shows d c (piece_of d c q).n)))

unfoldable pub shape_ok : Description → ℕ → Constructor → Bool
shape_ok d i c =
    table_ok d i && minimum_ok c && value_ok c.pattern && range_ok operands_each (length d.operands) c.operands
    && range_ok pieces_each (length d.pieces) c.pieces

unfoldable pub constructor_ok : Description → ℕ → Bool
constructor_ok d i =
    let c = get_or d.constructors i no_constructor in
    shape_ok d i c && all_below c.operands.count (operand_fits d c) && all_below c.pieces.count (piece_fits d c)

-- ---- operands

-- "kind 0 a field (its index in section 1)", "A context field has anchor and offset 0."
abbrev pub field_fits : List Field → Operand → Bool
field_fits fields x =
    ltb x.index (length fields)
    && (not (eqb (get_or fields x.index no_field).source 1) || (eqb x.anchor 0 && eqb x.offset 0))

-- "A third operand kind (2) names one, with anchor and offset 0"
abbrev pub computed_fits : ℕ → Operand → Bool
computed_fits expressions x = ltb x.index expressions && eqb x.anchor 0 && eqb x.offset 0

-- "kind 0 a field (its index in section 1), 1 a table", "Offset 0 to 15"; of so many expressions
unfoldable pub operand_ok : List Field → ℕ → Operand → Bool
operand_ok fields expressions x =
    leb x.offset farthest
    && ((eqb x.kind 0 && field_fits fields x) || eqb x.kind 1 || (eqb x.kind 2 && computed_fits expressions x))

-- ---- pieces

-- "kind 0 is n ≥ 1 bytes of text from the offset, inside the text; kind 1 is operand n (1 to the count), offset 0"; the count is the user's
abbrev pub piece_ok : ℕ → Piece → Bool
piece_ok letters p =
    (eqb p.kind 0 && leb 1 p.n && leb (p.offset + p.n) letters) || (eqb p.kind 1 && eqb p.offset 0)

-- ---- text

-- "one byte, 32 to 126"
abbrev pub letter_ok : ℕ → Bool
letter_ok x = leb first_letter x && leb x last_letter
