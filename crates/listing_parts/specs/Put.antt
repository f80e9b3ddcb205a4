-- What the functions of a line's parts say of the buffers lent to them.
use Rattle.std.specs.Prelude.{ℕ, ◌+◌, ◌≤◌, List, ◌++◌, ◌≡◌, length, take}
use Rattle.printing.specs.Writing.{over}

-- the bytes w are put over the first of the part, which has room for them
pub record Put (w before after : List ℕ) (n : ℕ) : Type 0 where
  pub size : n ≡ length w
  pub fits : length w ≤ length before
  pub holds : after ≡ over w before

-- the bytes w stand behind the first `at`
pub record Appended (at : ℕ) (w before after : List ℕ) (n : ℕ) : Type 0 where
  pub size : n ≡ at + length w
  pub holds : after ≡ over (take at before ++ w) before

-- the bytes of a gap: one at least, eight at most, and room for their text
pub record GapBytes (bytes out : List ℕ) : Type 0 where
  pub some : 1 ≤ length bytes
  pub few : length bytes ≤ 8
  pub room : 52 ≤ length out
