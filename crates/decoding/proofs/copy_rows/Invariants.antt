use Rattle.decoding.specs.Copying.{Copied}
use Rattle.decoding.proofs.copy_rows.Given as goal

-- `decoding::copy_rows` meets its contract. Assumes nothing.
abbrev pub invariant-loop-k : goal.invariant-loop-k
invariant-loop-k l = Copied l.scratch l.k l.initial.rows l.rows
