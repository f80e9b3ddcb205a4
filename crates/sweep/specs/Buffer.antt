-- What the sweep's loop says of the rows lent to it.
use Rattle.std.specs.Prelude.{ℕ, ◌+◌, ◌*◌, List, [], ◌∷◌, ◌++◌, ◌≡◌, ℤ, length, take, drop}
use Rattle.format.specs.Numbers.{sweep_numbers}
use Rattle.format.specs.Description.{description}
use Rattle.format.specs.declared.Layout.{Layout}
use Rattle.setting.specs.Fixed.{Fixed, setting_in}
use Rattle.setting.specs.declared.Prepared.{Prepared}
use Rattle.sweep.specs.Sweep.{SweepRow, Sweep, numbers_of, sweep_in, answer_of, buffer_with}
use Rattle.sweep.specs.declared.Swept.{Swept}

-- the answer and the lent numbers afterwards are those of the sweep w
pub record Outcome (w : Sweep) (r : Swept) (old new : List ℤ) : Type 0 where
  pub answer : r ≡ answer_of w
  pub rows : new ≡ buffer_with w.rows old

-- of bytes b, which are an accepted description with these places
abbrev pub OutcomeIn : (b : List ℕ) (l : Layout) (c a n : ℕ) (s : List ℕ) (old : List ℤ) (r : Swept) (new : List ℤ) → Type 0
OutcomeIn b l c a n s old r new = Outcome (sweep_in (description b l) c a n s (length old)) r old new

-- of the numbers that are fixed along the sweep: they are still those of the same description
pub record StillFixed (b : List ℕ) (before after : Prepared) : Type 0 where
  pub fixed : Fixed b after
  pub same : (setting_in b after).description ≡ (setting_in b before).description

-- the lent numbers with row r as row i
unfoldable pub buffer_with_row : ℕ → SweepRow → List ℤ → List ℤ
buffer_with_row i r l = take (sweep_numbers * i) l ++ (numbers_of (r ∷ []) ++ drop (sweep_numbers * (i + 1)) l)
