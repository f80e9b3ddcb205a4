-- A function of the walk answers what the definition gives, and has put the rows behind those used before.
use Rattle.std.specs.Prelude.{ℕ, ◌+◌, ◌-◌, ◌≤◌, ◌<◌, List, ◌≡◌, ℤ, pos, length, get_or, replicate, set, drop, Ok, Err}
use Rattle.std.specs.Prelude as std
use Rattle.format.specs.Numbers.{longest, most_rows, operands_each}
use Rattle.format.specs.Description.{Description, no_constructor}
use Rattle.format.specs.Tables.{root_of}
use Rattle.format.specs.declared.Constructor.{Constructor}
use Rattle.format.specs.declared.Operand.{Operand}
use Rattle.choosing_spec.specs.declared.NotChosen.{NotChosen}
use Rattle.choosing_spec.specs.declared.NotChosen.TheVariants as choice
use Rattle.decoding_spec.specs.Tree.{Node}
use Rattle.decoding_spec.specs.Walk.{Result, done, refused, choice_in, operand_from, operands_from, constructor_from, walk_from, walked_from, walked_of}
use Rattle.decoding_spec.specs.declared.State.{State}
use Rattle.decoding_spec.specs.declared.Refusal.{Refusal}
use Rattle.decoding_spec.specs.declared.Refusal.TheVariants.{Short, NoMatch, Ambiguous}
use Rattle.decoding_theorems.specs.Usable.{Placed, Usable}
use Rattle.setting.specs.Fixed.{setting_in, with_length}
use Rattle.setting.specs.declared.Prepared.{Prepared}
use Rattle.walk_steps.specs.Scratch.{scratch_length, SizedRow, sized_of, sized_of_all, written}
use Rattle.walk_steps.specs.Steps.{Walked, arrived, answer_of, beyond_places}

-- an instruction with its rows: the answer, and what it leaves in the scratch
pub record Instruction : Type 0 where
  pub rows : List ℤ
  pub walked : Walked

abbrev pub leaving : Walked → List ℤ → Instruction
leaving w rows = record { rows = rows; walked = w }

abbrev pub no_rows : List ℤ
no_rows = replicate scratch_length (pos 0)

-- with zeros behind its rows; a refusal has none
abbrev pub instruction_as : Result Node → Instruction
instruction_as (done n l st) = leaving (arrived st l) (written 0 (sized_of n) no_rows)
instruction_as (refused r) = leaving (Err r) no_rows

-- a done walk: how many rows it used, its bounds, and what stands in the scratch
pub record Finished {A : Type 0} (rows : A → List SizedRow) (a : A) (l : ℕ) (st : State) (at used : ℕ) (old new : List ℤ) : Type 0 where
  pub count : st.used ≡ used + length (rows a)
  pub few : st.used ≤ most_rows
  pub near : at + l ≤ longest
  pub held : new ≡ written used (rows a) old

abbrev pub Put : {A : Type 0} → (A → List SizedRow) → Result A → ℕ → ℕ → List ℤ → List ℤ → Type 0
Put rows (done a l st) at used old new = Finished rows a l st at used old new
Put rows (refused r) at used old new = Unit {0}

pub record WalksTo {A : Type 0} (rows : A → List SizedRow) (result : Result A) (r : Walked) (at used : ℕ) (old new : List ℤ) : Type 0 where
  pub answer : r ≡ answer_of result
  pub put : Put rows result at used old new

-- at every depth that leaves nothing out, where so many rows are taken up by the constructors around
pub record Walks {A : Type 0} (rows : A → List SizedRow) (result : ℕ → Result A) (r : Walked) (at room used : ℕ) (old new : List ℤ) : Type 0 where
  pub to : (depth : ℕ) → most_rows < room + depth → WalksTo rows (result depth) r at used old new

-- what each function of the walk says; b and a are the description's bytes and what is fixed
module _ (b : List ℕ) (a : Prepared) (s : List ℕ) (at : ℕ) (st : State) (old : List ℤ) (r : Walked) (new : List ℤ) where
  -- an operand that starts so far behind the place
  abbrev pub OperandWalks : Operand → ℕ → Type 0
  OperandWalks x start =
      Walks sized_of (λ depth. operand_from (setting_in b a) (walk_from (setting_in b a) depth) x s at start st) r (at + start) st.used st.used old new

  abbrev pub OperandsWalk : Constructor → Type 0
  OperandsWalk k =
      Walks sized_of_all
      (λ depth.
      operands_from (setting_in b a) (walk_from (setting_in b a) depth) k.operands.first s at k.operands.count 0 (replicate (operands_each + 1) 0) 0 st)
      r at st.used st.used old new

  abbrev pub ConstructorWalks : ℕ → Type 0
  ConstructorWalks n =
      Walks sized_of
      (λ depth. constructor_from (setting_in b a) (walk_from (setting_in b a) depth) n (get_or (setting_in b a).description.constructors n no_constructor) s at st)
      r at (st.used + 1) st.used old new

  abbrev pub TableWalks : ℕ → Type 0
  TableWalks t = Walks sized_of (λ depth. walk_from (setting_in b a) depth t s at st) r at st.used st.used old new

-- the walk at a place of the code: the bytes from there to the end
unfoldable pub walked_at : (b : List ℕ) (a : Prepared) (s : List ℕ) (at c : ℕ) → Result Node
walked_at b a s at c = walked_of (setting_in b a).description c (drop at s)

-- what is fixed, told that length
abbrev pub told_length : (a : Prepared) (s : List ℕ) (at : ℕ) → Prepared
told_length a s at = with_length (length s - at) a

-- what the cycle's functions ask for themselves
pub record PlacedAt (b : List ℕ) (a : Prepared) (x : Operand) (at start : ℕ) : Type 0 where
  pub placed : Placed (setting_in b a).description x
  pub near : at ≤ longest
  pub small : start < beyond_places - longest

pub record UsableAt (b : List ℕ) (a : Prepared) (k : Constructor) (at : ℕ) : Type 0 where
  pub usable : Usable (setting_in b a).description k
  pub near : at ≤ longest

pub record ConstructorAt (b : List ℕ) (a : Prepared) (n at : ℕ) (st : State) : Type 0 where
  pub within : n < length (setting_in b a).description.constructors
  pub near : at ≤ longest
  pub room : st.used < most_rows

-- what a choice in a table comes to at a place: "2, 3, 4", or the constructor taken
abbrev pub chosen_as : (at t : ℕ) → std.Result ℕ NotChosen → std.Result ℕ Refusal
chosen_as at t (Err choice.Short) = Err (Short at)
chosen_as at t (Err choice.NoMatch) = Err (NoMatch at t)
chosen_as at t (Ok n) = Ok n
chosen_as at t (Err choice.Ambiguous) = Err (Ambiguous at t)

-- the root's, at the code's start
abbrev pub root_chosen : Description → ℕ → List ℕ → std.Result ℕ Refusal
root_chosen d c s = chosen_as 0 (root_of d) (choice_in d (root_of d) s c)

-- the root's walk, with its own end
abbrev pub RootWalks : (b : List ℕ) (a : Prepared) → ℕ → List ℕ → List ℤ → Walked → List ℤ → Type 0
RootWalks b a c s old r new = WalksTo sized_of (walked_from (setting_in b a) c s) r 0 0 old new
