use Rattle.format.specs.Rules.{piece_ok}
use Rattle.format.specs.Description.{pieces_of, no_piece}
use Rattle.lists.specs.Below.{all_below}
use lib.ListN.{get_or}
use mathlib.Core.Path.{◌≡◌}
use Rattle.validation.proofs.all_pieces.Given as goal

abbrev pub invariant-loop-i : goal.invariant-loop-i
invariant-loop-i l = l.good ≡ all_below l.i (λ i. piece_ok l.layout.text.count (get_or (pieces_of l.desc l.layout) i no_piece))
