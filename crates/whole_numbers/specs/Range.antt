-- "Values are whole numbers ..; any on the way outside signed 64 bits is refused".
use Rattle.std.specs.Prelude.{◌^◌, Bool, cond, ltb, ℤ, Option, Some, None}
use Rattle.std.specs.Int.Signed.{mag}

-- -2^63 ≤ z < 2^63: mag is n for n and for -(n + 1)
unfoldable pub inside : ℤ → Bool
inside z = ltb (mag z) (2 ^ 63)

-- the number itself, or `None` where it is outside
unfoldable pub kept : ℤ → Option ℤ
kept z = cond (inside z) (Some z) None
