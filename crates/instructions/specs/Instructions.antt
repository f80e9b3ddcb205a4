-- What the functions of this crate ask and say.
use Rattle.std.specs.Prelude.{ℕ, ◌+◌, ◌≤◌, ◌<◌, true, List, ◌≡◌, ℤ, pos, nat_abs, length, get_or, drop, Ok, Err}
use Rattle.std.specs.Prelude as std
use Rattle.format.specs.Numbers.{longest, most_rows, operands_each}
use Rattle.format.specs.Description.{Description}
use Rattle.format.specs.Expression.{no_expression, names_only}
use Rattle.expressions.specs.Value.{numbered}
use Rattle.decoding_spec.specs.Tree.{Node}
use Rattle.decoding_spec.specs.Walk.{Result}
use Rattle.decoding_spec.specs.Instruction.{Valued, valued, outside, instruction_of}
use Rattle.setting.specs.Fixed.{Fixed, setting_in}
use Rattle.setting.specs.declared.Prepared.{Prepared}
use Rattle.walk_steps.specs.Scratch.{scratch_length}
use Rattle.scratch_rows.specs.Places.{kind_at, number_at, start_at, last_at, size_at}
use Rattle.decoding_spec.specs.declared.Refusal.{Refusal}
use Rattle.decoding_spec.specs.declared.Refusal.TheVariants.{ValueOutside}
use Rattle.walk_steps.specs.Steps.{Walked}
use Rattle.instructions.specs.declared.Stepped.{Stepped}

-- the instruction at a place of the code, where byte 0 has this address: "no address wraps"
unfoldable pub result_at : (b : List ℕ) (a : Prepared) (s : List ℕ) (at c address : ℕ) → Result Node
result_at b a s at c address = instruction_of (setting_in b a).description c (address + at) (drop at s)

-- a row of so many can be read: its part ends among them, and its numbers are those of the description's records
pub record ReadableRow (d : Description) (rows : List ℤ) (used r : ℕ) : Type 0 where
  pub ends : r + size_at rows r ≤ used
  pub near : start_at rows r ≤ longest
  pub field : kind_at rows r ≡ 2 → number_at rows r < length d.fields
  pub name : kind_at rows r ≡ 2 → last_at rows r ≡ pos (nat_abs (last_at rows r))
  pub expression : kind_at rows r ≡ 3 → number_at rows r < length d.expressions
  pub names : kind_at rows r ≡ 3 → names_only (numbered operands_each) (get_or d.expressions (number_at rows r) no_expression) ≡ true

pub record ReadableRows (d : Description) (rows : List ℤ) (used : ℕ) : Type 0 where
  pub long : length rows ≡ scratch_length
  pub few : used ≤ most_rows
  pub row : (r : ℕ) → r < used → ReadableRow d rows used r

-- .. of the description with these bytes and numbers, and row r is one of them
pub record RowOf (b : List ℕ) (a : Prepared) (rows : List ℤ) (used r : ℕ) : Type 0 where
  pub fixed : Fixed b a
  pub readable : ReadableRows (setting_in b a).description rows used
  pub within : r < used

-- .. as a walk leaves them, which is no longer than an instruction may be
abbrev pub Settleable : Description → Walked → List ℤ → Type 0
Settleable d (Ok w) rows = ReadableRows d rows w.state.used × (w.length ≤ longest)
Settleable d (Err x) rows = Unit {0}

-- the rows with their values, or the place of the first that has none
abbrev pub Settles : Valued (List ℤ) → std.Result (Unit {0}) Refusal → List ℤ → Type 0
Settles (valued rows) r new = (r ≡ Ok tt) × (new ≡ rows)
Settles (outside p) r new = r ≡ Err (ValueOutside p)

-- what a sweep asks of an instruction
abbrev pub stepped_as : Walked → std.Result Stepped Refusal
stepped_as (Ok w) = Ok (record { length = w.length; constructor = w.state.taken })
stepped_as (Err x) = Err x
