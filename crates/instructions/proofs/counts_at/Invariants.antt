use Rattle.setting.specs.Fixed.{setting_in}
use Rattle.instructions.proofs.Gathering.{Gathered}
use Rattle.instructions.proofs.counts_at.Given as goal

-- `instructions::counts_at` meets its contract. Assumes nothing.
abbrev pub invariant-loop-o : goal.invariant-loop-o
invariant-loop-o l = Gathered (setting_in l.desc l.fixed).description l.rows l.used l.owner l.end l.counts l.row l.o
