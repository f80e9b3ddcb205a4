-- "two continuations to eight or more bytes would be answered differently"
use Rattle.std.specs.Prelude.{ℕ, ◌<◌, ◌≤◌, List, ◌++◌, ◌≡◌, length, get_or}
use Rattle.table_query.specs.Asking.{ask_of}

pub record AskedApart (b : List ℕ) (t c : ℕ) (s : List ℕ) : Type 0 where
  pub these : List ℕ
  pub those : List ℕ
  pub these-bytes : (i : ℕ) → get_or these i 0 < 256
  pub those-bytes : (i : ℕ) → get_or those i 0 < 256
  pub these-long : 8 ≤ length (s ++ these)
  pub those-long : 8 ≤ length (s ++ those)
  pub apart : ask_of b t c (s ++ these) ≡ ask_of b t c (s ++ those) → ⊥
