-- A description as its records: plain lists, one for each section.
use Rattle.std.specs.Prelude.{ℕ, ◌+◌, ◌*◌, List, []}
use Rattle.lists.specs.Tab.{tab}
use Rattle.format.specs.Bytes.{byte_at}
use Rattle.format.specs.Numbers.{field_bytes, name_bytes, constructor_bytes, operand_bytes, piece_bytes, letter_bytes, expression_bytes}
use Rattle.format.specs.Record.{field_at, name_at, constructor_at, operand_at, piece_at}
use Rattle.format.specs.Expression.{Expression, expression_at}
use Rattle.format.specs.declared.Field.{Field}
use Rattle.format.specs.declared.Name.{Name}
use Rattle.format.specs.declared.Constructor.{Constructor}
use Rattle.format.specs.declared.Operand.{Operand}
use Rattle.format.specs.declared.Piece.{Piece}
use Rattle.format.specs.declared.Layout.{Layout}
use Rattle.format.specs.declared.Section.{Section}

pub record Description : Type 0 where
  pub fields : List Field
  pub names : List Name
  pub constructors : List Constructor
  pub operands : List Operand
  pub pieces : List Piece
  pub text : List ℕ
  pub expressions : List Expression

-- a section's records, each as the reader reads it at its place
abbrev pub records_of : {A : Type 0} → (List ℕ → ℕ → A) → ℕ → List ℕ → Section → List A
records_of reader size b s = tab (λ i. reader b (s.start + size * i)) s.count

unfoldable pub fields_of : List ℕ → Layout → List Field
fields_of b l = records_of field_at field_bytes b l.fields

unfoldable pub names_of : List ℕ → Layout → List Name
names_of b l = records_of name_at name_bytes b l.names

unfoldable pub constructors_of : List ℕ → Layout → List Constructor
constructors_of b l = records_of constructor_at constructor_bytes b l.constructors

unfoldable pub operands_of : List ℕ → Layout → List Operand
operands_of b l = records_of operand_at operand_bytes b l.operands

unfoldable pub pieces_of : List ℕ → Layout → List Piece
pieces_of b l = records_of piece_at piece_bytes b l.pieces

unfoldable pub text_of : List ℕ → Layout → List ℕ
text_of b l = records_of byte_at letter_bytes b l.text

unfoldable pub expressions_of : List ℕ → Layout → List Expression
expressions_of b l = records_of expression_at expression_bytes b l.expressions

-- the description that bytes with these places are
abbrev pub description : List ℕ → Layout → Description
description b l =
    record {
      fields = fields_of b l;
      names = names_of b l;
      constructors = constructors_of b l;
      operands = operands_of b l;
      pieces = pieces_of b l;
      text = text_of b l;
      expressions = expressions_of b l;
    }

-- what a list gives past its end; nothing that is judged reads there
abbrev pub no_field : Field
no_field = field_at [] 0

abbrev pub no_name : Name
no_name = name_at [] 0

abbrev pub no_constructor : Constructor
no_constructor = constructor_at [] 0

abbrev pub no_operand : Operand
no_operand = operand_at [] 0

abbrev pub no_piece : Piece
no_piece = piece_at [] 0
