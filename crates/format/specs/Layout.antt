-- The counts, read in order, and where they place the sections.
use Rattle.std.specs.Prelude.{ℕ, ◌+◌, ◌*◌, ◌≤◌, cond, ◌&&◌, List, leb, eqb, length, Option, Some, None, Result, Ok, Err}
use Rattle.format.specs.Bytes.{u16_at}
use Rattle.format.specs.Numbers.{count_bytes, most_fields, most_names, least_constructors, most_constructors, most_operands, most_pieces, most_letters, most_expressions, field_bytes, name_bytes, constructor_bytes, operand_bytes, piece_bytes, letter_bytes, expression_bytes}
use Rattle.format.specs.declared.Section.{Section}
use Rattle.format.specs.declared.Layout.{Layout}
use Rattle.format.specs.declared.Read.{Read}

-- "a count missing, out of limit or not followed by its records is that section's fault"
unfoldable pub section_at : List ℕ → ℕ → ℕ → ℕ → ℕ → Option (Read Section)
section_at b at least most size =
    cond
    (leb (at + count_bytes) (length b) && leb least (u16_at b at) && leb (u16_at b at) most
    && leb (at + count_bytes + u16_at b at * size) (length b))
    (Some (record { value = record { start = at + count_bytes; count = u16_at b at }; next = record { at = at + count_bytes + u16_at b at * size } }))
    None

-- section k, and what comes after it
abbrev pub next : ℕ → Option (Read Section) → (Section → ℕ → Result Layout ℕ) → Result Layout ℕ
next k (Some r) more = more r.value r.next.at
next k None more = Err k

-- "First the counts are read in order": section k is read at a place and put into the layout, which was filled up to here; then the rest is read.
abbrev pub section : List ℕ → ℕ → ℕ → ℕ → ℕ → (Layout → Section → Layout) → (Layout → ℕ → Result Layout ℕ) → Layout → ℕ → Result Layout ℕ
section b k least most size put rest l at = next k (section_at b at least most size) (λ s end. rest (put l s) end)

-- the description may end here, or goes on
abbrev pub end_or : List ℕ → (Layout → ℕ → Result Layout ℕ) → Layout → ℕ → Result Layout ℕ
end_or b rest l at = cond (eqb at (length b)) (Ok l) (rest l at)

-- a layout with one section put in
abbrev pub put_fields : Layout → Section → Layout
put_fields l s =
    record { fields = s; names = l.names; constructors = l.constructors; operands = l.operands; pieces = l.pieces; text = l.text; expressions = l.expressions }

abbrev pub put_names : Layout → Section → Layout
put_names l s =
    record { fields = l.fields; names = s; constructors = l.constructors; operands = l.operands; pieces = l.pieces; text = l.text; expressions = l.expressions }

abbrev pub put_constructors : Layout → Section → Layout
put_constructors l s =
    record { fields = l.fields; names = l.names; constructors = s; operands = l.operands; pieces = l.pieces; text = l.text; expressions = l.expressions }

abbrev pub put_operands : Layout → Section → Layout
put_operands l s =
    record { fields = l.fields; names = l.names; constructors = l.constructors; operands = s; pieces = l.pieces; text = l.text; expressions = l.expressions }

abbrev pub put_pieces : Layout → Section → Layout
put_pieces l s =
    record { fields = l.fields; names = l.names; constructors = l.constructors; operands = l.operands; pieces = s; text = l.text; expressions = l.expressions }

abbrev pub put_text : Layout → Section → Layout
put_text l s =
    record { fields = l.fields; names = l.names; constructors = l.constructors; operands = l.operands; pieces = l.pieces; text = s; expressions = l.expressions }

abbrev pub put_expressions : Layout → Section → Layout
put_expressions l s =
    record { fields = l.fields; names = l.names; constructors = l.constructors; operands = l.operands; pieces = l.pieces; text = l.text; expressions = s }

-- a section without records, and a layout of such alone
abbrev pub empty : Section
empty = record { start = 0; count = 0 }

abbrev pub unlaid : Layout
unlaid = record { fields = empty; names = empty; constructors = empty; operands = empty; pieces = empty; text = empty; expressions = empty }

-- "Six sections stand in a fixed order, each after its count (two bytes)"; "a seventh section, after its count", "A description may end
-- after six sections", "bytes left over are the last section's"
unfoldable pub expressions_from : List ℕ → Layout → ℕ → Result Layout ℕ
expressions_from b = section b 7 0 most_expressions expression_bytes put_expressions (end_or b (λ l at. Err 7))

unfoldable pub text_from : List ℕ → Layout → ℕ → Result Layout ℕ
text_from b = section b 6 0 most_letters letter_bytes put_text (end_or b (expressions_from b))

unfoldable pub pieces_from : List ℕ → Layout → ℕ → Result Layout ℕ
pieces_from b = section b 5 0 most_pieces piece_bytes put_pieces (text_from b)

unfoldable pub operands_from : List ℕ → Layout → ℕ → Result Layout ℕ
operands_from b = section b 4 0 most_operands operand_bytes put_operands (pieces_from b)

unfoldable pub constructors_from : List ℕ → Layout → ℕ → Result Layout ℕ
constructors_from b = section b 3 least_constructors most_constructors constructor_bytes put_constructors (operands_from b)

unfoldable pub names_from : List ℕ → Layout → ℕ → Result Layout ℕ
names_from b = section b 2 0 most_names name_bytes put_names (constructors_from b)

unfoldable pub layout_of : List ℕ → Result Layout ℕ
layout_of b = section b 1 0 most_fields field_bytes put_fields (names_from b) unlaid 0

-- a section of records of this size lies inside the bytes
abbrev pub inside : List ℕ → ℕ → Section → Type 0
inside b size s = s.start + size * s.count ≤ length b

-- each section lies inside the bytes, there is a constructor, and no section that a row's number names has too many records: what
-- layout_of shows of the places that it gives
pub record SectionsInBounds (b : List ℕ) (l : Layout) : Type 0 where
  pub fields : inside b field_bytes l.fields
  pub names : inside b name_bytes l.names
  pub constructors : inside b constructor_bytes l.constructors
  pub operands : inside b operand_bytes l.operands
  pub pieces : inside b piece_bytes l.pieces
  pub text : inside b letter_bytes l.text
  pub expressions : inside b expression_bytes l.expressions
  pub some : 1 ≤ l.constructors.count
  pub few : l.constructors.count ≤ most_constructors
  pub few_fields : l.fields.count ≤ most_fields
  pub few_names : l.names.count ≤ most_names
  pub few_expressions : l.expressions.count ≤ most_expressions
