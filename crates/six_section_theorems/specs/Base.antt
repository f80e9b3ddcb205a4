-- The walk of document 01, which knows operands of kinds 0 and 1 alone, and no address. Its steps at a field and behind a constructor's
-- operands are those of `decoding_spec`.
use Rattle.std.specs.Prelude.{ℕ, zero, suc, ◌+◌, ◌/◌, max, cond, List, ltb, eqb, length, get_or, set, drop, replicate, Result, Ok, Err}
use Rattle.format.specs.Numbers.{longest, most_rows, operands_each, sweep_numbers}
use Rattle.format.specs.Description.{Description, no_field, no_constructor, no_operand}
use Rattle.format.specs.Tables.{root_of}
use Rattle.format.specs.declared.Constructor.{Constructor}
use Rattle.format.specs.declared.Operand.{Operand}
use Rattle.choosing_spec.specs.declared.NotChosen.{NotChosen}
use Rattle.choosing_spec.specs.declared.NotChosen.TheVariants as choice
use Rattle.decoding_spec.specs.State.{Setting, setting_of, starting, counted}
use Rattle.decoding_spec.specs.Tree.{Node, Nodes, none, more}
use Rattle.decoding_spec.specs.Walk.{Result as WalkResult, done, refused, Walker, and_then, full, choice_in, start_of, field_from, closing, reject_empty}
use Rattle.decoding_spec.specs.declared.State.{State}
use Rattle.decoding_spec.specs.declared.Refusal.TheVariants.{Short, NoMatch, Ambiguous, TooFar, TooManyRows}
use Rattle.sweep.specs.Sweep.{Sweep, step_by, sweep_by}

module _ (g : Setting) where
  -- "kind 0 a field (its index in section 1), 1 a table"
  unfoldable pub operand_base : Walker → Operand → List ℕ → ℕ → ℕ → State → WalkResult Node
  operand_base w x s at start st =
      cond (eqb x.kind 0)
      (field_from g (get_or g.description.fields x.index no_field) x.index (drop start s) (at + start) st)
      (w x.index (drop start s) (at + start) st)

  unfoldable pub operands_base : Walker → ℕ → List ℕ → ℕ → (left o : ℕ) → List ℕ → (far : ℕ) → State → WalkResult Nodes
  operands_base w first s at zero o ends far st = done none far st
  operands_base w first s at (suc left) o ends far st =
      let x = get_or g.description.operands (first + o) no_operand in
      and_then (operand_base w x s at (start_of ends x) st) λ n size st.
      let end = start_of ends x + size in
      and_then (operands_base w first s at left (o + 1) (set ends (o + 1) end) (max far end) st) λ f far st.
      done (more n f) far st

  unfoldable pub constructor_base : Walker → ℕ → Constructor → List ℕ → ℕ → State → WalkResult Node
  constructor_base w n k s at st =
      closing g n k.minimum at
      (operands_base w k.operands.first s at k.operands.count 0 (replicate (operands_each + 1) 0) 0 (counted st))

  abbrev pub taking_base : Walker → ℕ → List ℕ → ℕ → State → Result ℕ NotChosen → WalkResult Node
  taking_base w t s at st (Err choice.Short) = refused (Short at)
  taking_base w t s at st (Err choice.NoMatch) = refused (NoMatch at t)
  taking_base w t s at st (Ok n) = constructor_base w n (get_or g.description.constructors n no_constructor) s at st
  taking_base w t s at st (Err choice.Ambiguous) = refused (Ambiguous at t)

  unfoldable pub table_base : Walker → Walker
  table_base w t s at st =
      cond (full st)
      (refused TooManyRows)
      (cond (ltb longest at) (refused (TooFar at)) (taking_base w t s at st (choice_in g.description t s st.context)))

  unfoldable pub walk_base : ℕ → Walker
  walk_base zero t s at st = refused TooManyRows
  walk_base (suc depth) t s at st = table_base (walk_base depth) t s at st

-- the instruction
unfoldable pub instruction_base : Description → ℕ → List ℕ → WalkResult Node
instruction_base d c s = reject_empty (walk_base (setting_of d (length s)) (suc most_rows) (root_of d) s 0 (starting c))

-- the sweep: "each row is that place's decoding", and a gap has one byte
unfoldable pub sweep_base : Description → ℕ → List ℕ → ℕ → Sweep
sweep_base d c s numbers = sweep_by (λ at. step_by 1 (instruction_base d c (drop at s))) (length s) (numbers / sweep_numbers) 0
