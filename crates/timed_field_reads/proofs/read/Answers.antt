use mathlib.Core.Path.{sym, ◌∙◌}
use Rattle.timed_field_reads.specs.Read.{field_value}
use Rattle.timed_field_reads.proofs.read.Goals as goal

pub returns-then-can_read : goal.returns-then-can_read
unfolding field_value
returns-then-can_read c = rw (sym c.can_read.ensures ∙ c.if-can_read.true) (rw c.from.ensures at c.value.ensures)

pub returns : goal.returns
unfolding field_value
returns c = rw (sym c.can_read.ensures ∙ c.if-can_read.false)
