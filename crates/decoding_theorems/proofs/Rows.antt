-- What holds of each row of two lists holds of each row of both.
use mathlib.Core.List.{List, [], ◌∷◌, ◌++◌}
use Rattle.decoding_spec.specs.Tree.{Row}
use Rattle.decoding_theorems.specs.Facts.{Each}

pub each_append : (P : Row → Type 0) (a b : List Row) → Each P a → Each P b → Each P (a ++ b)
each_append P [] b p q = q
each_append P (r ∷ a) b p q = (p.0, each_append P a b p.1 q)
