-- A count of two bytes times a record's size of one byte is small.
use Prim.Native.Nat.{ℕ, ◌<◌, ◌≤◌, ◌*◌}
use native.Mathlib.Nat.{mul-le-mul}
use native.Mathlib.Omega.{arith}

pub small : (n size : ℕ) → n < 65536 → size < 256 → n * size ≤ 16711425
small n size p q = mul-le-mul {n₂ = 65535} {m₂ = 255} (omega arith) (omega arith)
