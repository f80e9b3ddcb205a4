-- Writing at a place of a text: what stood before it is kept, what stands behind the written bytes is left open.
use Rattle.std.specs.Prelude.{ℕ, ◌+◌, ◌≤◌, ◌<◌, List, ◌++◌, ◌≡◌, length, take, Option, Some, None}

-- the bytes w stand from place `at` up to the end
pub record Appended (at : ℕ) (w before after : List ℕ) (end : ℕ) : Type 0 where
  pub fits : end ≤ length before
  pub ends : end ≡ at + length w
  pub holds : take end after ≡ take at before ++ w

abbrev pub AppendedBy : ℕ → List ℕ → List ℕ → List ℕ → Option ℕ → Type 0
AppendedBy at w before after (Some end) = Appended at w before after end
AppendedBy at w before after None = length before < at + length w

-- the answer is the end of the bytes written, or that they have no room
pub record Appends (at : ℕ) (w before after : List ℕ) (r : Option ℕ) : Type 0 where
  pub is : AppendedBy at w before after r
