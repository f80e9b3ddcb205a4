use mathlib.Core.Bool.{false}
use mathlib.Core.Path.{◌≡◌, refl, ap, ◌∙◌}
use native.Mathlib.Omega.{arith}
use Rattle.std.proofs.Common.{Err}
use Rattle.std.proofs.lemmas.Result.{err_from_is_err_and}
use Rattle.format.specs.Description.{description}
use Rattle.decoding_spec.specs.Instruction.{instruction_of}
use Rattle.setting.proofs.Laws.{fixed-of}
use Rattle.walking.specs.Walks.{leaving, instruction_as}
use Rattle.instructions.proofs.InstructionRows.{first-here}
use Rattle.decoding.proofs.Answers.{refusal-told, few, no-room-told, rows_told}
use Rattle.decoding.proofs.decode_in.Goals.{After-decode_at}
use Rattle.decoding.proofs.decode_in.Goals as goal

-- `decoding::decode_in` meets its contract. Assumes nothing.
-- the instruction at the code's start
found : (c : After-decode_at)
    → let start = c.args in
    leaving c.decode_at.result c.decode_at.new.rows
    ≡ instruction_as (instruction_of (description start.desc.now start.layout) start.context start.address start.code.now)
found c = c.decode_at.ensures.rows_after ∙ ap instruction_as (first-here _ _ _ _ false _ _ c.fill-fixed.ensures)

pub decode_at-requires : goal.decode_at-requires
decode_at-requires c = (rw c.fill-fixed.ensures (fixed-of _ _ false c.requires), omega arith, refl)

pub overflow_mul-used : goal.overflow_mul-used
overflow_mul-used c = omega (arith, few _ _ _ _ _ (found (goal.at.overflow_mul-used c).After-decode_at) _ _ c.in_ok-walk.was)

pub returns-in_err-walk : goal.returns-in_err-walk
returns-in_err-walk c =
    let e = err_from_is_err_and _ c.from_residual.ensures.1 in
    let told = refusal-told _ _ _ _ _ (found (goal.at.returns-in_err-walk c).After-decode_at) c.args.rows.now _ c.in_err-walk.was in
    record { answer = e.1 ∙ ap Err e.2 ∙ told.answer; buffer = told.buffer }

pub returns-then-rows-used : goal.returns-then-rows-used
returns-then-rows-used c =
    no-room-told _ _ _ _ _ (found (goal.at.returns-then-rows-used c).After-decode_at) _ _ c.in_ok-walk.was c.args.rows.now c.if-rows-used.true

pub copy_rows-requires : goal.copy_rows-requires
copy_rows-requires c =
    (few _ _ _ _ _ (found (goal.at.copy_rows-requires c).After-decode_at) _ _ c.in_ok-walk.was, c.if-rows-used.false)

pub returns : goal.returns
returns c =
    rows_told _ _ _ _ _ (found (goal.at.returns c).After-decode_at) _ _ c.in_ok-walk.was _ _ c.if-rows-used.false c.copy_rows.ensures
