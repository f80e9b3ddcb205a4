-- The walk: "starts at byte 0 of the input with the root", goes from a constructor to its operands, and ends with the tree or with
-- the first refusal in its order.
use Rattle.std.specs.Prelude.{ℕ, zero, suc, ◌+◌, max, Bool, cond, ◌||◌, List, leb, ltb, eqb, pos, length, get_or, drop, set, replicate, Ok, Err}
use Rattle.std.specs.Prelude as std
use Rattle.format.specs.Numbers.{longest, operands_each, most_rows}
use Rattle.format.specs.Description.{Description, no_field, no_name, no_constructor, no_operand}
use Rattle.format.specs.Rules.{bits_of}
use Rattle.format.specs.Tables.{root_of, table_first}
use Rattle.format.specs.declared.Field.{Field}
use Rattle.format.specs.declared.Constructor.{Constructor}
use Rattle.format.specs.declared.Operand.{Operand}
use Rattle.choosing_spec.specs.declared.NotChosen.{NotChosen}
use Rattle.choosing_spec.specs.declared.NotChosen.TheVariants as choice
use Rattle.choosing_spec.specs.Table.{choose_in}
use Rattle.fields.specs.Value.{value_of}
use Rattle.fields.specs.Look.{look_of, number_of}
use Rattle.fields.specs.declared.Look.{Look}
use Rattle.fields.specs.declared.Look.TheVariants as look
use Rattle.decoding_spec.specs.State.{Setting, setting_of, starting, counted, closed_by}
use Rattle.decoding_spec.specs.Tree.{Node, Nodes, built, numbered, named, computed, none, more}
use Rattle.decoding_spec.specs.declared.State.{State}
use Rattle.decoding_spec.specs.declared.Refusal.{Refusal}
use Rattle.decoding_spec.specs.declared.Refusal.TheVariants.{Short, NoMatch, Ambiguous, Hole, TooFar, TooManyRows, RootLengthZero}

-- what a walk over a node, or over operands, comes to: what was found, its length and the state behind it; or a refusal
pub data Result (A : Type 0) : Type 0 where
  done : A → (size : ℕ) → State → Result A
  refused : Refusal → Result A

-- how a table is decoded: its number, the bytes "from where it starts to the end of the input", its place, the state
abbrev pub Walker : Type 0
Walker = ℕ → List ℕ → ℕ → State → Result Node

-- "if an inner table refuses, so does the instruction"
abbrev pub and_then : {A B : Type 0} → Result A → (A → ℕ → State → Result B) → Result B
and_then (done a l st) rest = rest a l st
and_then (refused r) rest = refused r

-- "a 33rd row is needed"
abbrev pub full : State → Bool
full st = leb most_rows st.used

-- "its end adds the field's width (0 for context)"
abbrev pub width_of : Field → ℕ
width_of f = cond (eqb f.source 0) f.width 0

-- choosing in table t, by record numbers of section 3
abbrev pub numbered_from : ℕ → std.Result ℕ NotChosen → std.Result ℕ NotChosen
numbered_from first (Ok j) = Ok (first + j)
numbered_from first (Err why) = Err why

unfoldable pub choice_in : Description → ℕ → List ℕ → ℕ → std.Result ℕ NotChosen
choice_in d t s c = numbered_from (table_first d t) (choose_in d t s c)

-- field i at place p, by its look: "1, field, start, value", or "2, field, start, name number (first name plus value)" and "hole:
-- the name has length 0"
unfoldable pub shown_as : Description → Field → ℕ → ℕ → ℕ → Look → State → Result Node
shown_as d f i p v (look.Number signed base) st = done (numbered i p (number_of signed (bits_of f) v)) (width_of f) st
shown_as d f i p v look.Name st =
    cond (eqb (get_or d.names (f.first + v) no_name).length 0)
    (refused (Hole p))
    (done (named i p (f.first + v)) (width_of f) st)

-- "Start of an operand = anchor + offset"; "Anchor 0 is the constructor's start, j the end of the constructor's operand j":
-- ends has them in this order, counted from the constructor's start
abbrev pub start_of : List ℕ → Operand → ℕ
start_of ends x = get_or ends x.anchor 0 + x.offset

-- in this setting
module _ (g : Setting) where
  -- "at a field: 7, 6, 2, 5", "At a field, a context field too, .. short means that its end is past the input's end."
  unfoldable pub field_from : Field → ℕ → List ℕ → ℕ → State → Result Node
  field_from f i s p st =
      cond (full st)
      (refused TooManyRows)
      (cond (ltb longest p || ltb longest (p + width_of f))
      (refused (TooFar p))
      (cond (ltb g.total (p + width_of f))
      (refused (Short p))
      (shown_as g.description f i p (value_of f s st.context) (look_of f.look) (counted st))))

  -- "no bytes and a context field's tests but 5": 7, 6, 2. Its value is 0 here: it is computed at the root's end.
  unfoldable pub computed_from : ℕ → ℕ → State → Result Node
  computed_from i p st =
      cond (full st)
      (refused TooManyRows)
      (cond (ltb longest p)
      (refused (TooFar p))
      (cond (ltb g.total p) (refused (Short p)) (done (computed i p (pos 0)) 0 (counted st))))

  -- operand x, which starts so far behind its constructor: "kind 0 a field .., 1 a table", "A third operand kind (2)"
  unfoldable pub operand_from : Walker → Operand → List ℕ → ℕ → ℕ → State → Result Node
  operand_from w x s at start st =
      cond (eqb x.kind 0)
      (field_from (get_or g.description.fields x.index no_field) x.index (drop start s) (at + start) st)
      (cond (eqb x.kind 2)
      (computed_from x.index (at + start) st)
      (w x.index (drop start s) (at + start) st))

  -- so many operands from operand o on, which is record first + o, of the constructor at place `at`; with the ends of those before
  -- them, and the farthest of these
  unfoldable pub operands_from : Walker → ℕ → List ℕ → ℕ → (left o : ℕ) → List ℕ → (far : ℕ) → State → Result Nodes
  operands_from w first s at zero o ends far st = done none far st
  operands_from w first s at (suc left) o ends far st =
      let x = get_or g.description.operands (first + o) no_operand in
      and_then (operand_from w x s at (start_of ends x) st) λ n size st.
      let end = start_of ends x + size in
      and_then (operands_from w first s at left (o + 1) (set ends (o + 1) end) (max far end) st) λ f far st.
      done (more n f) far st

  -- "A constructor's length is the larger of its minimum and its farthest operand end from its start"; "after a constructor's
  -- operands: 6, 2"
  unfoldable pub closed : ℕ → ℕ → Nodes → ℕ → State → Result Node
  closed n at f l st =
      cond (ltb longest (at + l))
      (refused (TooFar at))
      (cond (ltb g.total (at + l)) (refused (Short at)) (done (built n at l f) l (closed_by n st)))

  abbrev pub closing : ℕ → ℕ → ℕ → Result Nodes → Result Node
  closing n minimum at r = and_then r λ f far st. closed n at f (max minimum far) st

  -- constructor n at place `at`, with its operands
  unfoldable pub constructor_from : Walker → ℕ → Constructor → List ℕ → ℕ → State → Result Node
  constructor_from w n k s at st =
      closing n k.minimum at
      (operands_from w k.operands.first s at k.operands.count 0 (replicate (operands_each + 1) 0) 0 (counted st))

  abbrev pub taking : Walker → ℕ → List ℕ → ℕ → State → std.Result ℕ NotChosen → Result Node
  taking w t s at st (Err choice.Short) = refused (Short at)
  taking w t s at st (Err choice.NoMatch) = refused (NoMatch at t)
  taking w t s at st (Ok n) = constructor_from w n (get_or g.description.constructors n no_constructor) s at st
  taking w t s at st (Err choice.Ambiguous) = refused (Ambiguous at t)

  -- "At a constructor: 7, 6, 2, 3, 4"
  unfoldable pub table_from : Walker → Walker
  table_from w t s at st =
      cond (full st)
      (refused TooManyRows)
      (cond (ltb longest at) (refused (TooFar at)) (taking w t s at st (choice_in g.description t s st.context)))

  -- "An operand that names a table is decoded in turn": constructors nested so deep at most. Each has a row of its own, so one
  -- level more than there may be rows leaves none out.
  unfoldable pub walk_from : ℕ → Walker
  walk_from zero t s at st = refused TooManyRows
  walk_from (suc depth) t s at st = table_from (walk_from depth) t s at st

-- "At the root's end: 8"
abbrev pub reject_empty : Result Node → Result Node
reject_empty r = and_then r λ n l st. cond (eqb l 0) (refused RootLengthZero) (done n l st)

-- "The walk starts at byte 0 of the input with the root."
unfoldable pub walked_from : Setting → ℕ → List ℕ → Result Node
walked_from g c s = reject_empty (walk_from g (suc most_rows) (root_of g.description) s 0 (starting c))

unfoldable pub walked_of : Description → ℕ → List ℕ → Result Node
walked_of d c s = walked_from (setting_of d (length s)) c s
