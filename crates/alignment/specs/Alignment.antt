-- "Source document 002 has an alignment (default 1)."
use Rattle.std.specs.Prelude.{ℕ, ◌-◌, ◌%◌, min, Bool, ◌||◌, eqb}

-- "The sweep takes 1, 2, 4 or 8"
abbrev pub is_alignment : ℕ → Bool
is_alignment n = eqb n 1 || eqb n 2 || eqb n 4 || eqb n 8

-- x is a multiple of n
abbrev pub is_multiple : (n x : ℕ) → Bool
is_multiple n x = eqb (x % n) 0

-- from x to the next multiple of n, which comes after x
abbrev pub to_multiple : (n x : ℕ) → ℕ
to_multiple n x = n - x % n

-- "A gap now reaches to the next multiple or the input's end, whichever is first": at the address x, with so many bytes left
unfoldable pub gap_length : (n x left : ℕ) → ℕ
gap_length n x left = min (to_multiple n x) left

-- "A place that is no multiple is a gap with answer 14"
abbrev pub no_multiple : ℕ
no_multiple = 14
