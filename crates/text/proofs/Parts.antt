-- The text by place: a part by its row's kind, and a constructor's pieces one by one.
use Prim.Native.Nat.{ℕ, zero, suc, ◌+◌, ◌≤◌, ◌<◌}
use mathlib.Core.List.{List, ◌++◌}
use mathlib.Core.Path.{◌≡◌, refl, ap, ◌∙◌}
use native.Mathlib.Numerals.{add-one}
use native.Mathlib.Omega.{arith}
use native.Mathlib.Decide.{dec_lt}
use borrow.Author.Tests.{ne_eqb}
use lib.IntN.{ℤ, nat_abs}
use lib.ListN.{length, get_or, length-append}
use Rattle.std.specs.Prelude.{Option, Some, None}
use Rattle.format.specs.Numbers.{most_rows}
use Rattle.format.specs.Description.{Description, no_field, no_piece}
use Rattle.format.specs.declared.Piece.{Piece}
use Rattle.fields.specs.Look.{look_of}
use Rattle.printing.specs.Numerals.{number_text}
use Rattle.text.specs.Text.{base_of, computed_text, letters, piece_text, pieces_text, constructor_text, name_text}
use Rattle.scratch_rows.specs.Places.{kind_at, number_at, last_at}
use Rattle.text.specs.Places.{text_at, operand_text}
use Rattle.text.specs.Append.{Appended, Appends}
use Rattle.text.specs.Prints.{Printable}
use Rattle.text.proofs.Writers.{appended-none, appended-more, full-more}
use Rattle.setting.specs.declared.Prepared.{Prepared}

-- at another row and another place
pub moved : {b : List ℕ} {a : Prepared} {rows : List ℤ} {used r r' : ℕ} {out out' : List ℕ} {at at' : ℕ} → Printable b a rows used r out at → r' < used
    → at' ≤ length out' → Printable b a rows used r' out' at'
moved p row place = record { fixed = p.fixed; sound = p.sound; row = row; place = place }

module _ (d : Description) (rows : List ℤ) (r : ℕ) (room : r < most_rows) (at : ℕ) (before after : List ℕ) (p : Option ℕ) where
  pub part-number : kind_at rows r ≡ 1
      → Appends at (number_text (base_of (look_of (get_or d.fields (number_at rows r) no_field).look)) (last_at rows r)) before after p
      → (depth : ℕ) → most_rows < r + depth → Appends at (text_at d rows depth r) before after p
  unfolding text_at
  part-number k h zero g = absurd (omega arith)
  part-number k h (suc depth) g = rw k h

  pub part-computed : kind_at rows r ≡ 3 → Appends at (number_text 16 (last_at rows r)) before after p
      → (depth : ℕ) → most_rows < r + depth → Appends at (text_at d rows depth r) before after p
  unfolding text_at computed_text
  part-computed k h zero g = absurd (omega arith)
  part-computed k h (suc depth) g = rw k h

  pub part-name : (kind_at rows r ≡ 0 → ⊥) → (kind_at rows r ≡ 1 → ⊥) → (kind_at rows r ≡ 3 → ⊥) → Appends at (name_text d (nat_abs (last_at rows r))) before after p
      → (depth : ℕ) → most_rows < r + depth → Appends at (text_at d rows depth r) before after p
  unfolding text_at
  part-name k l m h zero g = absurd (omega arith)
  part-name k l m h (suc depth) g = rw (ne_eqb (kind_at rows r) 0 k, ne_eqb (kind_at rows r) 1 l, ne_eqb (kind_at rows r) 3 m) h

  pub part-constructor : kind_at rows r ≡ 0
      → ((depth : ℕ) → most_rows < r + 1 + depth
      → Appends at (constructor_text d (number_at rows r) (operand_text d rows r depth)) before after p)
      → (depth : ℕ) → most_rows < r + depth → Appends at (text_at d rows depth r) before after p
  unfolding text_at
  part-constructor k h zero g = absurd (omega arith)
  part-constructor k h (suc depth) g = rw k (h depth (omega arith))

module _ (d : Description) (operand : ℕ → List ℕ) (q : Piece) (at : ℕ) (before after : List ℕ) (r : Option ℕ) where
  pub piece-letters : q.kind ≡ 0 → Appends at (letters d q.offset q.n) before after r → Appends at (piece_text d operand q) before after r
  unfolding piece_text
  piece-letters k h = rw k h

  pub piece-operand : (q.kind ≡ 0 → ⊥) → Appends at (operand q.n) before after r → Appends at (piece_text d operand q) before after r
  unfolding piece_text
  piece-operand k h = rw (ne_eqb q.kind 0 k) h

module _ (d : Description) (operand : ℕ → List ℕ) (first : ℕ) where
  pieces-next : (q : ℕ) → pieces_text d operand first (q + 1) ≡ pieces_text d operand first q ++ piece_text d operand (get_or d.pieces (first + q) no_piece)
  unfolding pieces_text
  pieces-next q = rw add-one

  -- fewer pieces are no longer than all
  pieces-grow : (m n : ℕ) → m ≤ n → length (pieces_text d operand first m) ≤ length (pieces_text d operand first n)
  unfolding pieces_text
  pieces-grow m zero h = let e : m ≡ 0 = omega arith in rw e (omega arith)
  pieces-grow m (suc n) h = go (dec_lt m (suc n)) (λ l. pieces-grow m n l)
    where
      go : Dec (m < suc n) → (m ≤ n → length (pieces_text d operand first m) ≤ length (pieces_text d operand first n))
          → length (pieces_text d operand first m) ≤ length (pieces_text d operand first n ++ piece_text d operand (get_or d.pieces (first + n) no_piece))
      go (yes l) f = omega (arith, f (omega arith), length-append (pieces_text d operand first n) (piece_text d operand (get_or d.pieces (first + n) no_piece)))
      go (no l) f = let e : m ≡ suc n = omega arith in rw e (omega arith)

module _ (d : Description) (rows : List ℤ) (r first count at : ℕ) where
  -- the first q pieces are written
  pub record PiecesWritten (out₀ out : List ℕ) (end q : ℕ) : Type 0 where
    pub some : q ≤ count
    pub same : length out ≡ length out₀
    pub room : end ≤ length out
    pub added : (depth : ℕ) → most_rows < r + 1 + depth → Appended at (pieces_text d (operand_text d rows r depth) first q) out₀ out end

  pub no-piece : (out : List ℕ) → at ≤ length out → PiecesWritten out out at 0
  unfolding pieces_text
  no-piece out h = record { some = omega arith; same = refl; room = h; added = λ depth g. appended-none at out h }

  module _ (out₀ out : List ℕ) (end q : ℕ) (turn : PiecesWritten out₀ out end q) (h : q < count) (out' : List ℕ) (p : Option ℕ)
      (adds : (depth : ℕ) → most_rows < r + 1 + depth
      → Appends end (piece_text d (operand_text d rows r depth) (get_or d.pieces (first + q) no_piece)) out out' p) where
    pub next-piece : (next : ℕ) → p ≡ Some next → length out' ≡ length out → PiecesWritten out₀ out' next (q + 1)
    next-piece next e l =
        let some : most_rows < r + 1 + suc most_rows = omega arith in
        let one : Appended end (piece_text d (operand_text d rows r (suc most_rows)) (get_or d.pieces (first + q) no_piece)) out out' next = rw e at (adds (suc most_rows) some).is in
        record {
          some = omega arith;
          same = l ∙ turn.same;
          room = omega (arith, one.fits);
          added = λ depth g. rw (pieces-next d (operand_text d rows r depth) first q)
              (appended-more at (pieces_text d (operand_text d rows r depth) first q) (piece_text d (operand_text d rows r depth) (get_or d.pieces (first + q) no_piece)) out₀ out out' end next
              turn.same (turn.added depth g) (rw e at (adds depth g).is));
        }

    pub full-piece : p ≡ None → (depth : ℕ) → most_rows < r + 1 + depth → (after : List ℕ)
        → Appends at (pieces_text d (operand_text d rows r depth) first count) out₀ after None
    full-piece e depth g after =
        let w = piece_text d (operand_text d rows r depth) (get_or d.pieces (first + q) no_piece) in
        let more : length out₀ < at + length (pieces_text d (operand_text d rows r depth) first q ++ w) =
        full-more at (pieces_text d (operand_text d rows r depth) first q) w out₀ out out' end turn.same (turn.added depth g) (rw e at (adds depth g)) in
        record { is = omega (arith, more, pieces-grow d (operand_text d rows r depth) first (q + 1) count (omega arith), ap length (pieces-next d (operand_text d rows r depth) first q)) }

  pub all-pieces : (out₀ out : List ℕ) (end q : ℕ) → PiecesWritten out₀ out end q → count ≤ q → (depth : ℕ) → most_rows < r + 1 + depth
      → Appends at (pieces_text d (operand_text d rows r depth) first count) out₀ out (Some end)
  all-pieces out₀ out end q turn h depth g =
      let e : q ≡ count = omega (arith, turn.some) in
      record { is = rw e at (turn.added depth g) }
