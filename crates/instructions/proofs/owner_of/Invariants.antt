use mathlib.Core.Path.{◌≡◌}
use Rattle.instructions.specs.Settling.{owner_below}
use Rattle.instructions.proofs.owner_of.Given as goal

-- `instructions::owner_of` meets its contract. Assumes nothing.
abbrev pub invariant-loop-k : goal.invariant-loop-k
invariant-loop-k l = owner_below l.rows l.row l.k ≡ owner_below l.rows l.row l.row
