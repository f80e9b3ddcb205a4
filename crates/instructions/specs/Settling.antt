-- The values of computed operands, by the scratch rows: what the code computes. Nothing reads a computed operand's own value, so that
-- the values are put in row by row.
use Rattle.std.specs.Prelude.{ℕ, zero, suc, ◌+◌, ◌-◌, ◌*◌, cond, List, [], ◌∷◌, ltb, eqb, ℤ, pos, nat_abs, get_or, set, Option, Some, None, Ok, Err}
use Rattle.format.specs.Numbers.{operands_each}
use Rattle.format.specs.Description.{Description, no_field}
use Rattle.decoding_spec.specs.Instruction.{Valued, valued, outside, where_inside, expression_value}
use Rattle.decoding_spec.specs.declared.Refusal.TheVariants.{ValueOutside}
use Rattle.walk_steps.specs.Scratch.{scratch_numbers}
use Rattle.walking.specs.Walks.{Instruction, leaving, no_rows}
use Rattle.walk_steps.specs.Steps.{Walked}
use Rattle.scratch_rows.specs.Places.{kind_at, number_at, start_at, last_at, size_at}

-- the last row before r, and below k, whose part reaches past r: the constructor that r is an operand of
unfoldable pub owner_below : List ℤ → ℕ → ℕ → ℕ
owner_below rows r zero = 0
owner_below rows r (suc k) = cond (ltb r (k + size_at rows k)) k (owner_below rows r k)

-- the rows with this value in row r
abbrev pub with_value : List ℤ → ℕ → Option ℤ → Valued (List ℤ)
with_value rows r (Some v) = valued (set rows (scratch_numbers * r + 3) v)
with_value rows r None = outside (start_at rows r)

module _ (d : Description) where
  -- what the part at row r counts as
  unfoldable pub count_at : List ℤ → ℕ → ℤ
  count_at rows r =
      cond (eqb (kind_at rows r) 1)
      (last_at rows r)
      (cond (eqb (kind_at rows r) 2) (pos (nat_abs (last_at rows r) - (get_or d.fields (number_at rows r) no_field).first)) (pos 0))

  -- the parts from a row on that stand before the end, so many, with zeros behind them
  unfoldable pub counts_from : List ℤ → (row end left : ℕ) → List ℤ
  counts_from rows row end zero = []
  counts_from rows row end (suc left) =
      cond (ltb row end) (count_at rows row ∷ counts_from rows (row + size_at rows row) end left) (pos 0 ∷ counts_from rows row end left)

  -- the operands of the constructor at row k
  unfoldable pub counts_at : List ℤ → ℕ → List ℤ
  counts_at rows k = counts_from rows (k + 1) (k + size_at rows k) operands_each

  module _ (here after : ℕ) where
    -- the value of the computed operand at row r
    unfoldable pub computed_at : List ℤ → ℕ → Option ℤ
    computed_at rows r = expression_value d here after (counts_at rows (owner_below rows r r)) (number_at rows r)

    -- put in, if row r is one
    unfoldable pub settled_at : List ℤ → ℕ → Valued (List ℤ)
    settled_at rows r = cond (eqb (kind_at rows r) 3) (with_value rows r (computed_at rows r)) (valued rows)

    -- so many rows from row r on
    unfoldable pub settled_from : List ℤ → ℕ → ℕ → Valued (List ℤ)
    settled_from rows r zero = valued rows
    settled_from rows r (suc left) = where_inside (settled_at rows r) λ rows. settled_from rows (r + 1) left

-- the rows with their values; a value outside leaves none
abbrev pub valued_as : Walked → Valued (List ℤ) → Instruction
valued_as w (valued rows) = leaving w rows
valued_as w (outside p) = leaving (Err (ValueOutside p)) no_rows

-- what a walk at an address has answered and left, with its values
abbrev pub settled_walk : Description → ℕ → Walked → List ℤ → Instruction
settled_walk d here (Ok w) rows = valued_as (Ok w) (settled_from d here (here + w.length) rows 0 w.state.used)
settled_walk d here (Err x) rows = leaving (Err x) rows
