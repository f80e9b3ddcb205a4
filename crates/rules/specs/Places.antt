-- The part of an operand's rule that every description asks: all but the expression that the operand names.
use Rattle.std.specs.Prelude.{ℕ, Bool, ◌&&◌}
use Rattle.format.specs.Description.{Description}
use Rattle.format.specs.Rules.{operand_of, table_fits, anchor_fits}
use Rattle.format.specs.declared.Constructor.{Constructor}

-- the anchor and the table of the constructor's operand o, from 0
abbrev pub place_fits : Description → Constructor → ℕ → Bool
place_fits d c o = anchor_fits o (operand_of d c o) && table_fits d c (operand_of d c o)
