use Prim.Native.Nat.{◌+◌, ◌-◌, ◌*◌}
use Rattle.format.specs.Numbers.{most_rows}
use Rattle.setting.specs.Fixed.{setting_in}
use Rattle.walking.proofs.Turns.{LoopState}
use Rattle.walking.proofs.+walk.Given as goal

abbrev pub invariant-walk_operands-loop-o : goal.invariant-walk_operands-loop-o
invariant-walk_operands-loop-o l =
    LoopState (setting_in l.desc l.fixed) l.first l.code l.at l.count l.initial.passed l.initial.rows l.rows l.ends l.far l.passed l.o

-- the rows that are left fall: a table calls its constructor, a constructor its operands, those each operand, and an operand its table
abbrev pub decreases-walk_constructor : goal.decreases-walk_constructor
decreases-walk_constructor l = 4 * (most_rows + 1 - l.state.used) - 1

abbrev pub decreases-walk_operand : goal.decreases-walk_operand
decreases-walk_operand l = 4 * (most_rows + 1 - l.state.used) + 1

abbrev pub decreases-walk_operands : goal.decreases-walk_operands
decreases-walk_operands l = 4 * (most_rows + 1 - l.state.used) + 2

abbrev pub decreases-walk_table : goal.decreases-walk_table
decreases-walk_table l = 4 * (most_rows + 1 - l.state.used)
