-- How many nodes a tree has, up to a bound.
use Rattle.std.specs.Prelude.{ℕ, cond, leb, Option, Some, None}

abbrev pub counted_of : ℕ → ℕ → Option ℕ
counted_of most size = cond (leb size most) (Some size) None
