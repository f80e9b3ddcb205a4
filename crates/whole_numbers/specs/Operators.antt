-- "Below zero the bit operators read endless two's complement; a right shift rounds down." That the operators are those is shown bit by bit:
-- and-bits, or-bits, xor-bits, same-number, rounds-down (proofs/Bits.antt).
use Rattle.std.specs.Prelude.{ℕ, ◌-◌, ◌^◌, Bool, not, ℤ, pos, negsuc, ◌*ℤ◌}
use Rattle.std.specs.Int.Bits.{bit_and, bit_or, bit_xor}
use Rattle.std.specs.Int.Signed.{shr_z}
use Rattle.bits.specs.Bits.{is_set}

-- bit k in endless two's complement: -(n + 1) has the bits of n turned round
unfoldable pub bit_z : ℤ → ℕ → Bool
bit_z (pos n) k = is_set n k
bit_z (negsuc n) k = not (is_set n k)

-- the bits of a that b has not
unfoldable pub without : ℕ → ℕ → ℕ
without a b = a - bit_and a b

unfoldable pub and_z : ℤ → ℤ → ℤ
and_z (pos a) (pos b) = pos (bit_and a b)
and_z (pos a) (negsuc b) = pos (without a b)
and_z (negsuc a) (pos b) = pos (without b a)
and_z (negsuc a) (negsuc b) = negsuc (bit_or a b)

unfoldable pub or_z : ℤ → ℤ → ℤ
or_z (pos a) (pos b) = pos (bit_or a b)
or_z (pos a) (negsuc b) = negsuc (without b a)
or_z (negsuc a) (pos b) = negsuc (without a b)
or_z (negsuc a) (negsuc b) = negsuc (bit_and a b)

unfoldable pub xor_z : ℤ → ℤ → ℤ
xor_z (pos a) (pos b) = pos (bit_xor a b)
xor_z (pos a) (negsuc b) = negsuc (bit_xor a b)
xor_z (negsuc a) (pos b) = negsuc (bit_xor a b)
xor_z (negsuc a) (negsuc b) = pos (bit_xor a b)

unfoldable pub left_z : ℤ → ℕ → ℤ
left_z z k = z *ℤ pos (2 ^ k)

-- the largest whole number whose 2^k-fold is at most z
unfoldable pub right_z : ℤ → ℕ → ℤ
right_z z k = shr_z z (2 ^ k)
