-- What is fixed along a walk, and what changes. Only the definitions here name all parts of a state.
use Rattle.std.specs.Prelude.{ℕ, ◌+◌}
use Rattle.format.specs.Description.{Description}
use Rattle.decoding_spec.specs.declared.State.{State}

-- the description, and how many bytes the input has
pub record Setting : Type 0 where
  pub description : Description
  pub total : ℕ

-- for an input of so many bytes
abbrev pub setting_of : Description → ℕ → Setting
setting_of d n = record { description = d; total = n }

-- the same for an input of so many bytes
abbrev pub with_total : ℕ → Setting → Setting
with_total n g = record { description = g.description; total = n }

-- "The walk starts at byte 0": no row is used, in this context
abbrev pub starting : ℕ → State
starting c = record { used = 0; context = c; taken = 0 }

-- one more row
abbrev pub counted : State → State
counted st = record { used = st.used + 1; context = st.context; taken = st.taken }

-- constructor n is closed
abbrev pub closed_by : ℕ → State → State
closed_by n st = record { used = st.used; context = st.context; taken = n }
