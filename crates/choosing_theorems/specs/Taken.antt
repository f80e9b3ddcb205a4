-- What it says of a table that record t is taken.
use Rattle.std.specs.Prelude.{ℕ, ◌<◌, true, false, List, ◌≡◌}
use Rattle.choosing_spec.specs.Choosing.{matching, innermost}
use Rattle.format.specs.declared.Pattern.{Pattern}
use Rattle.patterns.specs.Relations.{inside}

-- "Taken is the matching constructor inside all other matching ones", and there is no other such one
pub record TakenFacts (at : ℕ → Pattern) (n : ℕ) (s : List ℕ) (c t : ℕ) : Type 0 where
  pub within : t < n
  pub matches : matching at n s c t ≡ true
  pub inmost : (j : ℕ) → j < n → (j ≡ t → ⊥) → matching at n s c j ≡ true → inside (at t) (at j) ≡ true
  pub only : (j : ℕ) → j < n → innermost at n s c j ≡ true → j ≡ t

-- the same without the count: every other matching one lies strictly above t
pub record Strict (at : ℕ → Pattern) (n : ℕ) (s : List ℕ) (c t : ℕ) : Type 0 where
  pub within : t < n
  pub matches : matching at n s c t ≡ true
  pub above : (j : ℕ) → j < n → (j ≡ t → ⊥) → matching at n s c j ≡ true
      → (inside (at t) (at j) ≡ true) × (inside (at j) (at t) ≡ false)
