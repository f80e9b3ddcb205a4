-- What the theorems say of a sweep's rows.
use Rattle.std.specs.Prelude.{ℕ, ◌+◌, ◌-◌, ◌≤◌, true, false, not, List, [], ◌∷◌, ◌++◌, ◌≡◌, eqb, length}
use Rattle.alignment.specs.Alignment.{is_multiple, gap_length, no_multiple}
use Rattle.format.specs.Description.{Description}
use Rattle.sweep.specs.Sweep.{SweepRow, Sweep, joined, end_at, row_at, row_of, no_root, step_at, sweep_from}
use Rattle.sweep.specs.declared.End.TheVariants as end

-- the rows go from one byte to the next without gap or overlap, none is empty, and "each row is that place's decoding"
abbrev pub Tiles : Description → (context address alignment : ℕ) → List ℕ → ℕ → List SweepRow → ℕ → Type 0
Tiles d c a n s at [] next = next ≡ at
Tiles d c a n s at (r ∷ rs) next =
    (r.start ≡ at) × (1 ≤ r.length) × (step_at d c a n s at ≡ row_of r.length r.answer r.constructor) × Tiles d c a n s (at + r.length) rs next

-- a sweep from a place on, which ends in the code or at its end
pub record Tiled (d : Description) (c a n : ℕ) (s : List ℕ) (at : ℕ) (w : Sweep) : Type 0 where
  pub tiles : Tiles d c a n s at w.rows w.next
  pub inside : w.next ≤ length s

-- an instruction's row starts at a multiple, and a row has answer 14 just where its place is none
pub record RowAligned (a n : ℕ) (r : SweepRow) : Type 0 where
  pub done : r.answer ≡ 0 → is_multiple n (a + r.start) ≡ true
  pub between : eqb r.answer no_multiple ≡ not (is_multiple n (a + r.start))

-- w is a sweep over the code s, w' over s ++ m, from the same place on, with room for as many rows
pub data Extends (d : Description) (c a n : ℕ) (s m : List ℕ) (room : ℕ) (w w' : Sweep) : Type 0 where
  -- w' has the rows of w, and goes on behind them with the room that they leave
  all-rows : w' ≡ joined w.rows (sweep_from d c a n (s ++ m) (room - length w.rows) w.next) → Extends d c a n s m room w w'
  -- the end of s, which is no multiple, had cut the last row of w, a gap: w' has the rows before it, then the same gap, which reaches to the
  -- next multiple or the end of s ++ m, and goes on behind it
  cut-gap : (rs : List SweepRow) (at l x : ℕ) → w ≡ joined (rs ++ (row_at at l x no_root ∷ [])) (end_at end.Used (length s))
      → at + l ≡ length s → is_multiple n (a + length s) ≡ false → (x ≡ 0 → ⊥)
      → w' ≡ joined (rs ++ (row_at at (gap_length n (a + at) (length (s ++ m) - at)) x no_root ∷ []))
      (sweep_from d c a n (s ++ m) (room - (length rs + 1)) (at + gap_length n (a + at) (length (s ++ m) - at)))
      → Extends d c a n s m room w w'
