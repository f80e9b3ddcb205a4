-- The rows' numbers, copied out of the scratch rows.
use Rattle.std.specs.Prelude.{ℕ, ◌+◌, ◌/◌, ◌<◌, List, ◌≡◌, ℤ, pos, length, get_or, drop}
use Rattle.format.specs.Numbers.{row_numbers}

-- the first n numbers are those of the scratch rows without each fifth one; the others are as they were
pub record Copied (scratch : List ℤ) (n : ℕ) (old new : List ℤ) : Type 0 where
  pub long : length new ≡ length old
  pub copied : (k : ℕ) → k < n → get_or new k (pos 0) ≡ get_or scratch (k + k / row_numbers) (pos 0)
  pub kept : drop n new ≡ drop n old
