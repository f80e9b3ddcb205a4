-- Going over parts of the rows.
use Prim.Native.Nat.{ℕ, zero, suc, ◌+◌, ◌-◌, ◌≤◌, ◌<◌}
use mathlib.Core.List.{List}
use mathlib.Core.Path.{◌≡◌, refl}
use native.Mathlib.Omega.{arith}
use lib.IntN.{ℤ}
use Rattle.scratch_rows.specs.Places.{size_at, skip}

pub skip-on : (rows : List ℤ) (r j : ℕ) → r ≤ skip rows r j
unfolding skip
skip-on rows r zero = omega arith
skip-on rows r (suc j) = omega (arith, skip-on rows (r + size_at rows r) j)

-- one part more
pub skip-one : (rows : List ℤ) (r left : ℕ) → 0 < left → skip rows r left ≡ skip rows (r + size_at rows r) (left - 1)
unfolding skip
skip-one rows r zero h = absurd (omega arith)
skip-one rows r (suc left) h = let e : suc left - 1 ≡ left = omega arith in rw e

-- all of them
pub skip-none : (rows : List ℤ) (r left : ℕ) → left ≤ 0 → skip rows r left ≡ r
unfolding skip
skip-none rows r zero h = refl
skip-none rows r (suc left) h = absurd (omega arith)
