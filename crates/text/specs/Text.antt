-- "Text: pieces in order, each written directly after the bytes already written; inner constructors print in place."
use Rattle.std.specs.Prelude.{ℕ, zero, suc, ◌+◌, ◌-◌, cond, List, [], ◌∷◌, ◌++◌, eqb, ℤ, get_or, take, drop}
use Rattle.format.specs.Description.{Description, no_field, no_name, no_constructor, no_piece}
use Rattle.format.specs.declared.Piece.{Piece}
use Rattle.fields.specs.Look.{look_of}
use Rattle.fields.specs.declared.Look.{Look}
use Rattle.fields.specs.declared.Look.TheVariants as look
use Rattle.printing.specs.Numerals.{base_number, number_text}
use Rattle.decoding_spec.specs.Tree.{Node, Nodes, built, numbered, named, computed, none, more}

-- the base in which a look shows a number
abbrev pub base_of : Look → ℕ
base_of (look.Number signed base) = base_number base
base_of look.Name = 10

-- a computed operand is "shown as signed hex"
unfoldable pub computed_text : ℤ → List ℕ
computed_text v = number_text 16 v

module _ (d : Description) where
  -- so many bytes of the text section, from an offset on
  unfoldable pub letters : ℕ → ℕ → List ℕ
  letters offset n = take n (drop offset d.text)

  -- "kind 0 is n ≥ 1 bytes of text from the offset ..; kind 1 is operand n", whose text is given
  unfoldable pub piece_text : (ℕ → List ℕ) → Piece → List ℕ
  piece_text operand p = cond (eqb p.kind 0) (letters p.offset p.n) (operand p.n)

  -- so many pieces from a first one on
  unfoldable pub pieces_text : (ℕ → List ℕ) → ℕ → ℕ → List ℕ
  pieces_text operand first zero = []
  pieces_text operand first (suc count) =
      pieces_text operand first count ++ piece_text operand (get_or d.pieces (first + count) no_piece)

  -- a constructor's pieces, where its operands' texts are given by their numbers (first is 1)
  unfoldable pub constructor_text : ℕ → (ℕ → List ℕ) → List ℕ
  constructor_text k operand =
      pieces_text operand (get_or d.constructors k no_constructor).pieces.first (get_or d.constructors k no_constructor).pieces.count

  unfoldable pub name_text : ℕ → List ℕ
  name_text n = letters (get_or d.names n no_name).offset (get_or d.names n no_name).length

  unfoldable mutual
    pub text_of : Node → List ℕ
    text_of (built k s l f) = constructor_text k (λ n. get_or (texts_of f) (n - 1) [])
    text_of (numbered i s v) = number_text (base_of (look_of (get_or d.fields i no_field).look)) v
    text_of (named i s n) = name_text n
    text_of (computed i s v) = computed_text v

    pub texts_of : Nodes → List (List ℕ)
    texts_of none = []
    texts_of (more n f) = text_of n ∷ texts_of f
