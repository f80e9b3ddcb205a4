use Prim.Native.Nat.{◌-◌, ◌≤◌}
use mathlib.Core.Path.{◌≡◌}
use Rattle.fields.specs.Value.{token_byte}
use Rattle.fields.specs.Token.{number_from}
use Rattle.timed_field_reads.proofs.token_by_bytes.Given as goal

abbrev pub invariant-loop-j : goal.invariant-loop-j
invariant-loop-j l = (l.j ≤ l.field.width) × (l.v ≡ number_from (token_byte l.field l.code) l.j (l.field.width - l.j))

abbrev pub decreases-loop-j : goal.decreases-loop-j
decreases-loop-j l = l.j
