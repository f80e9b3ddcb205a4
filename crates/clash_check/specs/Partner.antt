-- The partner of a record in the clash check, where it has one.
use Rattle.std.specs.Prelude.{ℕ, cond, ltb, Option, Some, None}
use Rattle.format.specs.declared.Pattern.{Pattern}
use Rattle.choosing_spec.specs.Clashing.{partner}

abbrev pub partner_if : (ℕ → Pattern) → ℕ → ℕ → Option ℕ
partner_if at n i = cond (ltb (partner at n i) n) (Some (partner at n i)) None
