use Prim.Native.Nat.{◌+◌, ◌-◌, ◌*◌}
use Rattle.format.specs.Numbers.{most_rows}
use Rattle.text.proofs.Parts.{PiecesWritten}
use Rattle.text.specs.Prints.{described}
use Rattle.text.proofs.+print.Given as goal

abbrev pub invariant-print_constructor-loop-q : goal.invariant-print_constructor-loop-q
invariant-print_constructor-loop-q l =
    PiecesWritten (described l.desc l.fixed) l.rows l.r l.first l.count l.at l.initial.out l.out l.end l.q

-- the rows that are left fall: a part calls its constructor, a constructor its pieces, a piece its part
abbrev pub decreases-print_constructor : goal.decreases-print_constructor
decreases-print_constructor l = 3 * (most_rows + 1 - l.r) - 1

abbrev pub decreases-print_part : goal.decreases-print_part
decreases-print_part l = 3 * (most_rows + 1 - l.r)

abbrev pub decreases-print_piece : goal.decreases-print_piece
decreases-print_piece l = 3 * (most_rows + 1 - l.r) - 2
