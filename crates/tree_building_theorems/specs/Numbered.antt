-- Paths by bits 0 to 95, the 64 byte bits before the 32 context bits.
use Rattle.std.specs.Prelude.{ℕ, ◌-◌, cond, ltb}
use Rattle.bits.specs.Bits.{bit}
use Rattle.format.specs.declared.Pattern.{Pattern}
use Rattle.tree_spec.specs.Form.{side}
use Rattle.tree_building_spec.specs.Rule.{kind_of, bit_of}

-- the value of bit k of a pattern
unfoldable pub value_at : Pattern → ℕ → ℕ
value_at p k = cond (ltb k 64) (bit p.value k) (bit p.contextvalue (k - 64))

-- the path behind a test of bit k, on side x
abbrev pub longer : Pattern → ℕ → ℕ → Pattern
longer p k x = side p (kind_of k) (bit_of k) x
