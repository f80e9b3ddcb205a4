-- "two continuations to eight or more bytes would be answered differently"
use Rattle.std.specs.Prelude.{ℕ, ◌+◌, ◌<◌, ◌≤◌, List, ◌++◌, ◌≡◌, length, get_or}
use Rattle.choosing_spec.specs.Choosing.{choose}
use Rattle.format.specs.declared.Pattern.{Pattern}

pub record Differ (at : ℕ → Pattern) (n : ℕ) (s : List ℕ) (c : ℕ) : Type 0 where
  pub these : List ℕ
  pub those : List ℕ
  pub these-bytes : (i : ℕ) → get_or these i 0 < 256
  pub those-bytes : (i : ℕ) → get_or those i 0 < 256
  pub these-long : 8 ≤ length s + length these
  pub those-long : 8 ≤ length s + length those
  pub differ : choose at n (s ++ these) c ≡ choose at n (s ++ those) c → ⊥
