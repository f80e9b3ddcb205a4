-- What the test says of a field, and a record's read by its field's.
use Prim.Native.Nat.{ℕ, ◌≤◌, ◌<◌}
use mathlib.Core.List.{List}
use mathlib.Core.Path.{◌≡◌, ap}
use borrow.Author.Tests.{le-leb, lt-leb}
use lib.ListN.{length}
use Rattle.format.specs.Numbers.{field_bytes}
use Rattle.format.specs.Record.{field_at, read_at}
use Rattle.format.specs.declared.Field.{Field}
use Rattle.format.specs.declared.Read.{Read}
use Rattle.timed_field_reads.specs.Read.{unread, field_value, record_value}

pub whole-record : (b : List ℕ) (c : ℕ) (s : List ℕ) (r : Read Field) → field_bytes ≤ length b → r ≡ read_at field_at field_bytes b 0
    → field_value r.value c s ≡ record_value b c s
unfolding record_value
whole-record b c s r l e = rw (le-leb field_bytes (length b) l) (ap (λ x. field_value x.value c s) e)

pub cut_record : (b : List ℕ) (c : ℕ) (s : List ℕ) → length b < field_bytes → unread ≡ record_value b c s
unfolding record_value
cut_record b c s l = rw (lt-leb field_bytes (length b) l)
