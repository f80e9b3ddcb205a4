-- A description's lists: how long each is, and the record at an index. One law for every section; the rest are instances.
use Prim.Native.Nat.{ℕ, ◌+◌, ◌*◌, ◌<◌}
use mathlib.Core.List.{List}
use mathlib.Core.Path.{◌≡◌, ap, ◌∙◌}
use native.Mathlib.Omega.{arith}
use lib.ListN.{length, get_or}
use Rattle.lists.proofs.Tab.{tab-length, tab-at}
use Rattle.format.specs.Bytes.{byte_at}
use Rattle.format.specs.Numbers.{field_bytes, name_bytes, constructor_bytes, operand_bytes, piece_bytes, letter_bytes, expression_bytes}
use Rattle.format.specs.Record.{field_at, name_at, constructor_at, operand_at, piece_at}
use Rattle.format.specs.Expression.{expression_at, no_expression}
use Rattle.format.specs.Description.{records_of, fields_of, names_of, constructors_of, operands_of, pieces_of, text_of, expressions_of, no_constructor}
use Rattle.format.specs.declared.Layout.{Layout}
use Rattle.format.specs.declared.Section.{Section}

module _ {A : Type 0} (reader : List ℕ → ℕ → A) (size : ℕ) (b : List ℕ) (s : Section) where
  pub records-length : length (records_of reader size b s) ≡ s.count
  records-length = tab-length _ _

  pub record-here : (i : ℕ) (none : A) → i < s.count → get_or (records_of reader size b s) i none ≡ reader b (s.start + size * i)
  record-here i none h = tab-at _ _ i none h

module _ (b : List ℕ) (l : Layout) where
  pub fields-length : length (fields_of b l) ≡ l.fields.count
  unfolding fields_of
  fields-length = records-length field_at field_bytes b l.fields

  pub names-length : length (names_of b l) ≡ l.names.count
  unfolding names_of
  names-length = records-length name_at name_bytes b l.names

  pub constructors-length : length (constructors_of b l) ≡ l.constructors.count
  unfolding constructors_of
  constructors-length = records-length constructor_at constructor_bytes b l.constructors

  pub operands-length : length (operands_of b l) ≡ l.operands.count
  unfolding operands_of
  operands-length = records-length operand_at operand_bytes b l.operands

  pub pieces-length : length (pieces_of b l) ≡ l.pieces.count
  unfolding pieces_of
  pieces-length = records-length piece_at piece_bytes b l.pieces

  pub text-length : length (text_of b l) ≡ l.text.count
  unfolding text_of
  text-length = records-length byte_at letter_bytes b l.text

  pub expressions-length : length (expressions_of b l) ≡ l.expressions.count
  unfolding expressions_of
  expressions-length = records-length expression_at expression_bytes b l.expressions

  pub expression-here : (i : ℕ) → i < l.expressions.count
      → get_or (expressions_of b l) i no_expression ≡ expression_at b (l.expressions.start + expression_bytes * i)
  unfolding expressions_of
  expression-here i h = record-here expression_at expression_bytes b l.expressions i no_expression h

  pub constructor-here : (i : ℕ) → i < l.constructors.count
      → get_or (constructors_of b l) i no_constructor ≡ constructor_at b (l.constructors.start + constructor_bytes * i)
  unfolding constructors_of
  constructor-here i h = record-here constructor_at constructor_bytes b l.constructors i no_constructor h

  pub letter-here : (i : ℕ) → i < l.text.count → get_or (text_of b l) i 0 ≡ byte_at b (l.text.start + i)
  unfolding text_of
  letter-here i h =
      let e : l.text.start + letter_bytes * i ≡ l.text.start + i = omega arith in
      record-here byte_at letter_bytes b l.text i 0 h ∙ ap (byte_at b) e
