-- What the functions that print a part of an instruction ask and say. b and a are the description's bytes and what is fixed.
use Rattle.std.specs.Prelude.{ℕ, suc, ◌+◌, ◌≤◌, ◌<◌, List, ◌≡◌, ℤ, length, get_or, Option}
use Rattle.format.specs.Numbers.{most_rows}
use Rattle.format.specs.Description.{Description, no_field, no_constructor, no_piece}
use Rattle.fields.specs.Look.{look_of}
use Rattle.printing.specs.Numerals.{number_text}
use Rattle.setting.specs.Fixed.{Fixed, setting_in}
use Rattle.setting.specs.declared.Prepared.{Prepared}
use Rattle.text.specs.Text.{base_of, letters, piece_text, constructor_text, name_text}
use Rattle.scratch_rows.specs.Places.{kind_at, number_at}
use Rattle.text.specs.Places.{text_at, operand_text, SoundRows, Showable}
use Rattle.text.specs.Append.{Appends}

-- the description that the numbers are fixed for
abbrev pub described : (b : List ℕ) (a : Prepared) → Description
described b a = (setting_in b a).description

-- sound rows of it, a row among those used, and a place in the text
pub record Printable (b : List ℕ) (a : Prepared) (rows : List ℤ) (used r : ℕ) (out : List ℕ) (at : ℕ) : Type 0 where
  pub fixed : Fixed b a
  pub sound : SoundRows (described b a) rows used
  pub row : r < used
  pub place : at ≤ length out

-- row r is a value's, of this kind
pub record ValueRow (rows : List ℤ) (r kind : ℕ) : Type 0 where
  pub is : kind ≡ kind_at rows r
  pub other : kind ≡ 0 → ⊥

-- row r is a constructor's, whose piece can be shown
pub record PieceRow (b : List ℕ) (a : Prepared) (rows : List ℤ) (r i : ℕ) : Type 0 where
  pub kind : kind_at rows r ≡ 0
  pub inside : i < length (described b a).pieces
  pub showable : Showable (described b a) (get_or (described b a).constructors (number_at rows r) no_constructor) (get_or (described b a).pieces i no_piece)

-- the text of the whole instruction
abbrev pub whole_text : (b : List ℕ) (a : Prepared) → List ℤ → List ℕ
whole_text b a rows = text_at (described b a) rows (suc most_rows) 0

-- what is printed at a place, by the answer p
module _ (b : List ℕ) (a : Prepared) (at : ℕ) (old new : List ℕ) (p : Option ℕ) where
  abbrev pub LettersPrinted : ℕ → ℕ → Type 0
  LettersPrinted offset n = Appends at (letters (described b a) offset n) old new p

  abbrev pub NamePrinted : ℕ → Type 0
  NamePrinted n = Appends at (name_text (described b a) n) old new p

  abbrev pub FieldPrinted : ℕ → ℤ → Type 0
  FieldPrinted i v = Appends at (number_text (base_of (look_of (get_or (described b a).fields i no_field).look)) v) old new p

  -- by the row r of these rows, at every depth that leaves nothing out
  module _ (rows : List ℤ) (r : ℕ) where
    abbrev pub PartPrinted : Type 0
    PartPrinted = (depth : ℕ) → most_rows < r + depth → Appends at (text_at (described b a) rows depth r) old new p

    abbrev pub PiecePrinted : ℕ → Type 0
    PiecePrinted i =
        (depth : ℕ) → most_rows < r + 1 + depth
        → Appends at (piece_text (described b a) (operand_text (described b a) rows r depth) (get_or (described b a).pieces i no_piece)) old new p

    abbrev pub ConstructorPrinted : Type 0
    ConstructorPrinted =
        (depth : ℕ) → most_rows < r + 1 + depth → Appends at (constructor_text (described b a) (number_at rows r) (operand_text (described b a) rows r depth)) old new p
