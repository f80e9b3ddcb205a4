use Rattle.setting.specs.Fixed.{setting_in}
use Rattle.instructions.proofs.Evaluating.{SettledTo}
use Rattle.instructions.proofs.settle.Given as goal

-- `instructions::settle` meets its contract. Assumes nothing.
abbrev pub invariant-loop-row : goal.invariant-loop-row
invariant-loop-row l = SettledTo (setting_in l.desc l.fixed).description l.here l.after l.used l.initial.rows l.rows l.row
