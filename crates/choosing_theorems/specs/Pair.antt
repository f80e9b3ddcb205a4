-- "the pair of records i < j with smallest i, then j", whose patterns clash
use Rattle.std.specs.Prelude.{ℕ, ◌<◌, true, false, ◌⊎◌, ◌≡◌}
use Rattle.choosing_spec.specs.Clashing.{clashing}
use Rattle.format.specs.declared.Pattern.{Pattern}

pub record FirstPair (at : ℕ → Pattern) (n i j : ℕ) : Type 0 where
  pub order : i < j
  pub inside : j < n
  pub clash : clashing at n i j ≡ true
  pub earlier : (k l : ℕ) → k < l → l < n → (k < i) ⊎ ((k ≡ i) × (l < j)) → clashing at n k l ≡ false
