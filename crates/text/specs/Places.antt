-- The same text, read off the scratch rows by their places: what the code computes.
use Rattle.std.specs.Prelude.{ℕ, zero, suc, ◌+◌, ◌-◌, ◌≤◌, ◌<◌, cond, List, [], ◌≡◌, eqb, ℤ, nat_abs, length, get_or}
use Rattle.format.specs.Numbers.{most_rows}
use Rattle.format.specs.Description.{Description, no_field, no_constructor}
use Rattle.format.specs.declared.Constructor.{Constructor}
use Rattle.format.specs.declared.Piece.{Piece}
use Rattle.fields.specs.Look.{look_of}
use Rattle.printing.specs.Numerals.{number_text}
use Rattle.walk_steps.specs.Scratch.{scratch_length}
use Rattle.scratch_rows.specs.Places.{kind_at, number_at, last_at, skip}
use Rattle.text.specs.Text.{base_of, computed_text, constructor_text, name_text}

-- a piece of the constructor k can be shown: its bytes lie in the text, its operand is one of the constructor's
pub record Showable (d : Description) (k : Constructor) (p : Piece) : Type 0 where
  pub letters : p.kind ≡ 0 → p.offset + p.n ≤ length d.text
  pub some : (p.kind ≡ 0 → ⊥) → 1 ≤ p.n
  pub few : (p.kind ≡ 0 → ⊥) → p.n ≤ k.operands.count

module _ (d : Description) (rows : List ℤ) where
  -- the text of the part at row r, nested so deep at most; a row's operands stand behind it, so one level more than there may be
  -- rows leaves none out
  unfoldable pub text_at : ℕ → ℕ → List ℕ
  text_at zero r = []
  text_at (suc depth) r =
      cond (eqb (kind_at rows r) 0)
      (constructor_text d (number_at rows r) (λ n. text_at depth (skip rows (r + 1) (n - 1))))
      (cond (eqb (kind_at rows r) 1)
      (number_text (base_of (look_of (get_or d.fields (number_at rows r) no_field).look)) (last_at rows r))
      (cond (eqb (kind_at rows r) 3) (computed_text (last_at rows r)) (name_text d (nat_abs (last_at rows r)))))

  -- that of operand n of the constructor at row r
  abbrev pub operand_text : (r depth n : ℕ) → List ℕ
  operand_text r depth n = text_at depth (skip rows (r + 1) (n - 1))

  -- the rows' numbers are those of the description's records, and each operand of a constructor has its row behind it
  pub record SoundRows (used : ℕ) : Type 0 where
    pub long : length rows ≡ scratch_length
    pub few : used ≤ most_rows
    pub constructors : (r : ℕ) → r < used → kind_at rows r ≡ 0 → number_at rows r < length d.constructors
    pub operands : (r : ℕ) → r < used → kind_at rows r ≡ 0 → (j : ℕ)
        → j < (get_or d.constructors (number_at rows r) no_constructor).operands.count
        → (r < skip rows (r + 1) j) × (skip rows (r + 1) j < used)
    pub fields : (r : ℕ) → r < used → kind_at rows r ≡ 1 → number_at rows r < length d.fields
    pub names : (r : ℕ) → r < used → (kind_at rows r ≡ 0 → ⊥) → (kind_at rows r ≡ 1 → ⊥) → (kind_at rows r ≡ 3 → ⊥)
        → nat_abs (last_at rows r) < length d.names
