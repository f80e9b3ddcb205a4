-- A step of the walk answers what the definition gives, and puts its rows behind those used before; a refusal leaves the rows.
use Rattle.std.specs.Prelude.{ℕ, ◌+◌, ◌-◌, ◌≤◌, ◌<◌, max, Bool, cond, List, [], ◌∷◌, ◌≡◌, ltb, ℤ, pos, length, get_or, Ok, Err}
use Rattle.std.specs.Prelude as std
use Rattle.format.specs.Numbers.{longest, most_rows}
use Rattle.format.specs.Description.{no_field}
use Rattle.format.specs.Rules.{bits_of}
use Rattle.format.specs.declared.Field.{Field}
use Rattle.fields.specs.Value.{value_of, Readable}
use Rattle.fields.specs.Look.{look_of, number_of}
use Rattle.fields.specs.declared.Look.TheVariants as look
use Rattle.decoding_spec.specs.State.{Setting, counted, closed_by}
use Rattle.decoding_spec.specs.Walk.{Result, done, refused, width_of, shown_as, field_from, computed_from}
use Rattle.decoding_spec.specs.declared.State.{State}
use Rattle.decoding_spec.specs.declared.Refusal.{Refusal}
use Rattle.decoding_spec.specs.declared.Refusal.TheVariants.{Short, TooFar}
use Rattle.setting.specs.Fixed.{Fixed, setting_in}
use Rattle.setting.specs.declared.Prepared.{Prepared}
use Rattle.walk_steps.specs.Scratch.{SizedRow, sized, sized_of, written}
use Rattle.walk_steps.specs.declared.Walk.{Walk}

-- what a walk answers: the state behind it and its length, or the refusal
abbrev pub Walked : Type 0
Walked = std.Result Walk Refusal

abbrev pub arrived : State → ℕ → Walked
arrived st l = Ok (record { state = st; length = l })

abbrev pub answer_of : {A : Type 0} → Result A → Walked
answer_of (done a l st) = arrived st l
answer_of (refused r) = Err r

-- no place that is asked for lies as far as this: an anchor's end, and an offset of a byte
abbrev pub beyond_places : ℕ
beyond_places = 512

-- what the functions of the walk ask: the description's numbers, the code from the place on, a place that is not beyond all places,
-- a state within the limit, and what each function asks for itself
pub record Ready (Own : Type 0) (b : List ℕ) (a : Prepared) (s : List ℕ) (at : ℕ) (st : State) : Type 0 where
  pub fixed : Fixed b a
  pub code : length s ≡ (setting_in b a).total - at
  pub close : at < beyond_places
  pub few : st.used ≤ most_rows
  pub own : Own

-- the rows that a step leaves
abbrev pub rows_left : {A : Type 0} → (A → List SizedRow) → Result A → ℕ → List ℤ → List ℤ
rows_left rows (done a l st) used old = written used (rows a) old
rows_left rows (refused r) used old = old

-- how far a done step has come, for the sums of the code
abbrev pub Bounded : {A : Type 0} → (A → List SizedRow) → Result A → ℕ → ℕ → Type 0
Bounded rows (done a l st) at used = (st.used ≡ used + length (rows a)) × (st.used ≤ most_rows) × (at + l ≤ longest)
Bounded rows (refused r) at used = Unit {0}

pub record StepsTo {A : Type 0} (rows : A → List SizedRow) (result : Result A) (r : Walked) (at used : ℕ) (old new : List ℤ) : Type 0 where
  pub answer : r ≡ answer_of result
  pub held : new ≡ rows_left rows result used old
  pub bounded : Bounded rows result at used

-- the same of a walk's answer
abbrev pub Within : ℕ → ℕ → Walked → Type 0
Within at used (Ok w) = (used ≤ w.state.used) × (w.state.used ≤ most_rows) × (at + w.length ≤ longest)
Within at used (Err r) = Unit {0}

-- a constructor after its operands, whatever these came to: "6, 2", and its length
abbrev pub closed_as : (total n minimum at : ℕ) → Walked → Walked
closed_as total n minimum at (Err r) = Err r
closed_as total n minimum at (Ok w) =
    let l = max minimum w.length in
    cond (ltb longest (at + l)) (Err (TooFar at)) (cond (ltb total (at + l)) (Err (Short at)) (arrived (closed_by n w.state) l))

-- its row before theirs
abbrev pub closed_rows : (n at used : ℕ) → Walked → List ℤ → List ℤ
closed_rows n at used (Err r) rows = rows
closed_rows n at used (Ok w) rows = written used (sized 0 n at (pos w.length) (w.state.used - used) ∷ []) rows

-- a computed operand, for an input of so many bytes
abbrev pub ComputedSteps : (total i at : ℕ) → State → List ℤ → Walked → List ℤ → Type 0
ComputedSteps total i at st old r new =
    (g : Setting) → g.total ≡ total → StepsTo sized_of (computed_from g i at st) r at st.used old new

-- a field whose value can be shown
pub record Showable (g : Setting) (f : Field) (s : List ℕ) (p : ℕ) (st : State) : Type 0 where
  pub readable : Readable f
  pub here : f.source ≡ 0 → f.width ≤ length s
  pub name : look_of f.look ≡ look.Name → f.first + value_of f s st.context < length g.description.names
  pub room : st.used < most_rows
  pub near : p + width_of f ≤ longest

-- b and a are the description's bytes and what is fixed
module _ (b : List ℕ) (a : Prepared) (s : List ℕ) (at : ℕ) (st : State) (old : List ℤ) (r : Walked) (new : List ℤ) where
  abbrev pub ShownSteps : Field → ℕ → Type 0
  ShownSteps f i =
      StepsTo sized_of (shown_as (setting_in b a).description f i at (value_of f s st.context) (look_of f.look) (counted st)) r at st.used old new

  abbrev pub FieldSteps : ℕ → Type 0
  FieldSteps i = StepsTo sized_of (field_from (setting_in b a) (get_or (setting_in b a).description.fields i no_field) i s at st) r at st.used old new

-- a number's row, put where rows are kept
abbrev pub PutsNumber : Field → Bool → ℕ → List ℕ → ℕ → ℕ → ℕ → List ℤ → List ℤ → Type 0
PutsNumber f signed i s c place used old new =
    new ≡ written used (sized 1 i place (number_of signed (bits_of f) (value_of f s c)) 1 ∷ []) old
