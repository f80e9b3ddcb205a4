-- What is fixed along a walk: the sections' places and counts, the input's length, and the tables' first constructors where they were gathered.
use Rattle.std.specs.Prelude.{ℕ, ◌+◌, ◌*◌, Bool, true, false, List, ◌≡◌, Option, Some, None}
use Rattle.format.specs.Numbers.{expression_bytes}
use Rattle.format.specs.Check.{WellFormed}
use Rattle.format.specs.Description.{Description, description}
use Rattle.format.specs.declared.Layout.{Layout}
use Rattle.tables.specs.Starts.{table_starts}
use Rattle.decoding_spec.specs.State.{Setting}
use Rattle.setting.specs.declared.Prepared.{Prepared}

-- gathered: the first constructor of each table, and the section's count behind the last
abbrev pub starts_of : Description → Bool → Option (List ℕ)
starts_of d true = Some (table_starts d)
starts_of d false = None

-- of a description with these places, before a walk is told its input's length
abbrev pub fixed_of : Description → Layout → Bool → Prepared
fixed_of d l gather = record { layout = l; total = 0; starts = starts_of d gather }

-- told an input's length
abbrev pub with_length : ℕ → Prepared → Prepared
with_length n a = record { layout = a.layout; total = n; starts = a.starts }

-- where expression i stands
abbrev pub expression_start : Prepared → ℕ → ℕ
expression_start a i = a.layout.expressions.start + expression_bytes * i

-- the setting that bytes b as the description are with this
unfoldable pub setting_in : List ℕ → Prepared → Setting
setting_in b a = record { description = description b a.layout; total = a.total }

-- the description is well-formed, and what was gathered is its tables'
pub record Fixed (b : List ℕ) (a : Prepared) : Type 0 where
  pub formed : WellFormed b a.layout
  pub gathered : (starts : List ℕ) → a.starts ≡ Some starts → starts ≡ table_starts (description b a.layout)
