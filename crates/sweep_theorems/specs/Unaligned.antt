-- The sweep without an alignment, as it was before document 02, 3: a gap has one byte.
use Rattle.std.specs.Prelude.{ℕ, ◌+◌, ◌/◌, List, length, drop, Option}
use Rattle.format.specs.Numbers.{sweep_numbers}
use Rattle.format.specs.Description.{Description}
use Rattle.decoding_spec.specs.Instruction.{instruction_of}
use Rattle.sweep.specs.Sweep.{Sweep, step_by, sweep_by}
use Rattle.sweep.specs.declared.Row.{Row}

unfoldable pub unaligned_step : Description → (context address : ℕ) → List ℕ → ℕ → Option Row
unaligned_step d c a s at = step_by 1 (instruction_of d c (a + at) (drop at s))

unfoldable pub unaligned_sweep : Description → (context address : ℕ) → List ℕ → ℕ → Sweep
unaligned_sweep d c a s numbers = sweep_by (unaligned_step d c a s) (length s) (numbers / sweep_numbers) 0
