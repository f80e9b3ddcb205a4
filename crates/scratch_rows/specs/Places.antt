-- The numbers of the scratch rows by their places, and the way from part to part.
use Rattle.std.specs.Prelude.{ℕ, zero, suc, ◌+◌, ◌*◌, List, ℤ, pos, nat_abs, get_or}
use Rattle.walk_steps.specs.Scratch.{scratch_numbers}

-- number j of row r
abbrev pub cell : List ℤ → ℕ → ℕ → ℤ
cell rows r j = get_or rows (scratch_numbers * r + j) (pos 0)

unfoldable pub kind_at : List ℤ → ℕ → ℕ
kind_at rows r = nat_abs (cell rows r 0)

unfoldable pub number_at : List ℤ → ℕ → ℕ
number_at rows r = nat_abs (cell rows r 1)

unfoldable pub start_at : List ℤ → ℕ → ℕ
start_at rows r = nat_abs (cell rows r 2)

unfoldable pub last_at : List ℤ → ℕ → ℤ
last_at rows r = cell rows r 3

unfoldable pub size_at : List ℤ → ℕ → ℕ
size_at rows r = nat_abs (cell rows r 4)

-- the row behind the j parts that start at row r
unfoldable pub skip : List ℤ → ℕ → ℕ → ℕ
skip rows r zero = r
skip rows r (suc j) = skip rows (r + size_at rows r) j
