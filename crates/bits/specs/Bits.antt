-- A number's bits; bit 0 is the lowest.
use Rattle.std.specs.Prelude.{ℕ, zero, suc, ◌+◌, ◌/◌, ◌%◌, ◌^◌, Bool, eqb}

abbrev pub bit : ℕ → ℕ → ℕ
bit x k = x / 2 ^ k % 2

abbrev pub is_set : ℕ → ℕ → Bool
is_set x k = eqb (bit x k) 1

-- how many of the first n bits are set
unfoldable pub ones_of : ℕ → ℕ → ℕ
ones_of zero x = 0
ones_of (suc n) x = ones_of n x + bit x n
