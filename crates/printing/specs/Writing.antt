-- What a writer does to the part that it is lent.
use Rattle.std.specs.Prelude.{ℕ, cond, List, ◌++◌, ◌≡◌, leb, length, drop, Option, Some, None}

-- w over the first bytes of l
unfoldable pub over : List ℕ → List ℕ → List ℕ
over w l = w ++ drop (length w) l

-- the bytes w are put into a part: all of them where they fit, and none where they do not; the answer is how many were
pub record Puts (w before after : List ℕ) (r : Option ℕ) : Type 0 where
  pub answer : r ≡ cond (leb (length w) (length before)) (Some (length w)) None
  pub holds : after ≡ cond (leb (length w) (length before)) (over w before) before
