-- What the next multiple is.
use Rattle.std.specs.Prelude.{ℕ, ◌≤◌, ◌<◌, true, ◌≡◌}
use Rattle.alignment.specs.Alignment.{is_multiple}

-- y is the first multiple of n after x
pub record NextMultiple (n x y : ℕ) : Type 0 where
  pub after : x < y
  pub multiple : is_multiple n y ≡ true
  pub first : (z : ℕ) → x < z → is_multiple n z ≡ true → y ≤ z
