use mathlib.Core.Path.{◌≡◌, sym, ap, ◌∙◌}
use native.Mathlib.Omega.{arith}
use Rattle.std.specs.Prelude.{Ok}
use Rattle.std.proofs.lemmas.Result.{err_from_is_err_and}
use Rattle.format.specs.declared.Operand.{Operand}
use Rattle.decoding_spec.specs.Walk.{start_of}
use Rattle.decoding_spec.specs.declared.State.{State}
use Rattle.decoding_theorems.proofs.Records.{usable}
use Rattle.decoding_theorems.proofs.Taken.{takes}
use Rattle.setting.proofs.Laws.{obeyed-in, few-in, total-in}
use Rattle.walk_steps.specs.Steps.{Within}
use Rattle.walking.proofs.Readiness.{stayed, moved}
use Rattle.walking.proofs.Answers.{within}
use Rattle.walking.proofs.Turns.{first-turn, next-turn, refused-turn, last_turn, operand-field, operand-computed, operand-table, constructor-closes, was-taken, table-full, table-far, table-refused, table_taken}
use Prim.Native.Nat.{ℕ, ◌<◌, ◌+◌}
use Rattle.walking.proofs.+walk.Goals.{walk_operands-After-from, walk_operands-In_ok-walk}
use Rattle.walking.proofs.+walk.Goals as goal

-- The cycle of the walk: a table calls its constructor, a constructor its operands, those each operand, and an operand its table.
-- The rows that are left fall. Assumes nothing.
abbrev used : State → ℕ
used st = st.used

pub walk_constructor-constructor-constructor-requires : goal.walk_constructor-constructor-constructor-requires
walk_constructor-constructor-constructor-requires t c = (c.requires.fixed, c.requires.own.within)

pub walk_constructor-one_more-requires : goal.walk_constructor-one_more-requires
walk_constructor-one_more-requires t c = c.requires.few

pub walk_constructor-walk_operands-walked-requires : goal.walk_constructor-walk_operands-walked-requires
walk_constructor-walk_operands-walked-requires t c =
    let ready = c.requires in
    let more = ap used c.one_more.ensures in (
      omega (arith, c.decreases, more, ready.own.room),
      stayed _ _ _ _ _ ready _ (omega (arith, more, ready.own.room))
          (record { usable = rw c.constructor-constructor.ensures (usable _ (obeyed-in _ _ ready.fixed) _ ready.own.within); near = ready.own.near }),
    )

pub walk_constructor-close-requires : goal.walk_constructor-close-requires
walk_constructor-close-requires t c =
    let ready = c.requires in
    record {
      number_bound = (omega (arith, few-in _ _ ready.fixed, ready.own.within), omega (arith, c.from-minimum.ensures), ready.own.near, ready.own.room);
      within = rw c.one_more.ensures at (within _ _ _ _ _ _ _ _ c.walk_operands-walked.ensures);
    }

pub walk_constructor-returns : goal.walk_constructor-returns
walk_constructor-returns t c =
    constructor-closes _ _ _ _ _ _ _ _ _ _ _ _ _ _ _ c.constructor-constructor.ensures c.from-minimum.ensures c.one_more.ensures (total-in _ _)
    c.walk_operands-walked.ensures c.close.ensures.value c.close.ensures.rows_after

pub walk_operand-overflow_add-place : goal.walk_operand-overflow_add-place
walk_operand-overflow_add-place t c = let ready = c.requires in omega (arith, ready.own.near, ready.own.small)

pub walk_operand-field_from-requires : goal.walk_operand-field_from-requires
walk_operand-field_from-requires t c =
    let ready = c.requires in
    moved _ _ _ _ _ ready _ _ c.min-from.ensures ready.own.near ready.own.small (ready.own.placed.field c.if-operand-eq0.true)

pub walk_operand-returns-then-operand-eq0 : goal.walk_operand-returns-then-operand-eq0
walk_operand-returns-then-operand-eq0 t c =
    operand-field _ _ _ _ _ _ _ _ _ _ c.min-from.ensures c.if-operand-eq0.true c.field_from.ensures

pub walk_operand-computed_from-requires : goal.walk_operand-computed_from-requires
walk_operand-computed_from-requires t c =
    let ready = c.requires in
    omega (arith, ready.own.near, ready.own.small)

pub walk_operand-returns-then-operand-eq2 : goal.walk_operand-returns-then-operand-eq2
walk_operand-returns-then-operand-eq2 t c =
    operand-computed _ _ _ _ _ _ _ _ _ _ c.min-from.ensures c.if-operand-eq0.false c.if-operand-eq2.true
    (c.computed_from.ensures _ (total-in _ _))

pub walk_operand-walk_table-requires : goal.walk_operand-walk_table-requires
walk_operand-walk_table-requires t c =
    let ready = c.requires in (
      omega (arith, c.decreases),
      moved _ _ _ _ _ ready _ _ c.min-from.ensures ready.own.near ready.own.small (ready.own.placed.table c.if-operand-eq0.false c.if-operand-eq2.false),
    )

pub walk_operand-returns : goal.walk_operand-returns
walk_operand-returns t c =
    operand-table _ _ _ _ _ _ _ _ _ _ c.min-from.ensures c.if-operand-eq0.false c.if-operand-eq2.false c.walk_table.ensures

pub walk_operands-loop-o-init : goal.walk_operands-loop-o-init
walk_operands-loop-o-init t c =
    let ready = c.requires in
    first-turn _ _ _ _ _ _ _ (rw c.from-count.ensures ready.own.usable.few) ready.few ready.own.near

pub walk_operands-operand-operand-requires : goal.walk_operands-operand-operand-requires
walk_operands-operand-operand-requires t c =
    let ready = c.requires in
    (ready.fixed, omega (arith, ready.own.usable.inside, c.from-count.ensures, c.loop-o-test.true))

pub walk_operands-bounds-ends-anchor : goal.walk_operands-bounds-ends-anchor
walk_operands-bounds-ends-anchor t c =
    let ready = c.requires in
    let h : c.loop-o.o < c.args.constructor.operands.count = rw c.from-count.ensures at c.loop-o-test.true in
    omega (arith, c.from-anchor.ensures ∙ ap (λ (x : Operand). x.anchor) c.operand-operand.ensures, ready.own.usable.anchored c.loop-o.o h, ready.own.usable.few)

pub walk_operands-overflow_add-start : goal.walk_operands-overflow_add-start
walk_operands-overflow_add-start t c = omega (arith, c.loop-o.invariant.nears c.from-anchor.result, c.from.ensures, c.from-offset.ensures)

pub walk_operands-walk_operand-requires : goal.walk_operands-walk_operand-requires
walk_operands-walk_operand-requires t c =
    let ready = c.requires in
    let h : c.loop-o.o < c.args.constructor.operands.count = rw c.from-count.ensures at c.loop-o-test.true in (
      omega (arith, c.decreases, c.loop-o.invariant.since, c.loop-o.invariant.few),
      stayed _ _ _ _ _ ready _ c.loop-o.invariant.few
          (record {
            placed = rw c.operand-operand.ensures (ready.own.usable.placed _ h);
            near = ready.own.near;
            small = omega (arith, c.loop-o.invariant.nears c.from-anchor.result, c.from.ensures, c.from-offset.ensures);
          }),
    )

-- where the operand starts
starts-at : (t : ℕ) (c : walk_operands-After-from t)
    → c.from.result + c.from-offset.result ≡ start_of c.loop-o.ends c.operand-operand.result
starts-at t c = rw (c.from.ensures, c.from-anchor.ensures, c.from-offset.ensures)

pub walk_operands-returns-in_err-walk : goal.walk_operands-returns-in_err-walk
walk_operands-returns-in_err-walk t c =
    let e = err_from_is_err_and c.from_residual.result c.from_residual.ensures.1 in
    rw (e.1, e.2, ← c.from-count.ensures)
    (refused-turn _ _ _ _ _ _ _ _ _ _ _ _ _ c.loop-o.invariant _ _ _ c.loop-o-test.true c.operand-operand.ensures (starts-at t (goal.at.walk_operands-returns-in_err-walk t c).After-from)
    c.walk_operand.ensures _ c.in_err-walk.was)

-- the bounds of the operand's walk, where it was done
came : (t : ℕ)
    (c : walk_operands-In_ok-walk t)
    → Within (c.args.at + (c.from.result + c.from-offset.result)) c.loop-o.passed.used (Ok c.in_ok-walk.walk)
came t c = rw c.in_ok-walk.was at (within _ _ _ _ _ _ _ _ c.walk_operand.ensures)

pub walk_operands-overflow_add-end : goal.walk_operands-overflow_add-end
walk_operands-overflow_add-end t c =
    let w = came t (goal.at.walk_operands-overflow_add-end t c).In_ok-walk in
    omega (arith, w.2)

pub walk_operands-overflow_cast-ends : goal.walk_operands-overflow_cast-ends
walk_operands-overflow_cast-ends t c =
    let w = came t (goal.at.walk_operands-overflow_cast-ends t c).In_ok-walk in
    omega (arith, w.2)

pub walk_operands-loop-o-preserved : goal.walk_operands-loop-o-preserved
walk_operands-loop-o-preserved t c =
    rw c.max-far.ensures
    (next-turn _ _ _ _ _ _ _ _ _ _ _ _ _ c.loop-o.invariant _ _ _ c.loop-o-test.true c.operand-operand.ensures (starts-at t (goal.at.walk_operands-loop-o-preserved t c).After-from)
    c.walk_operand.ensures _ _ c.in_ok-walk.was c.walk_operand.auto.rows)

pub walk_operands-shape_of-rows : goal.walk_operands-shape_of-rows
walk_operands-shape_of-rows t c = c.loop-o.invariant.kept

pub walk_operands-returns : goal.walk_operands-returns
walk_operands-returns t c = rw c.from-count.ensures at (last_turn _ _ _ _ _ _ _ _ _ _ _ _ c.loop-o.invariant c.loop-o-test.false)

pub walk_table-returns-then-state-ge-ROWS : goal.walk_table-returns-then-state-ge-ROWS
walk_table-returns-then-state-ge-ROWS t c = table-full _ _ _ _ _ _ _ c.if-state-ge-ROWS.true

pub walk_table-returns-then-at-gt-LONGEST : goal.walk_table-returns-then-at-gt-LONGEST
walk_table-returns-then-at-gt-LONGEST t c = table-far _ _ _ _ _ _ _ c.if-state-ge-ROWS.false c.if-at-gt-LONGEST.true

pub walk_table-choose_at-choice-requires : goal.walk_table-choose_at-choice-requires
walk_table-choose_at-choice-requires t c =
    (c.requires.fixed, c.requires.own)

pub walk_table-judge-requires : goal.walk_table-judge-requires
walk_table-judge-requires t c = c.requires.close

pub walk_table-walk_constructor-requires : goal.walk_table-walk_constructor-requires
walk_table-walk_constructor-requires t c =
    let ready = c.requires in
    let e = sym c.choose_at-choice.ensures ∙ was-taken _ _ _ _ (sym c.in_ok-number.ensures) in (
      omega (arith, c.decreases, c.if-state-ge-ROWS.false),
      stayed _ _ _ _ _ ready _ ready.few
          (record { within = (takes _ _ _ _ (obeyed-in _ _ ready.fixed) _ e).within; near = c.if-at-gt-LONGEST.false; room = c.if-state-ge-ROWS.false }),
    )

pub walk_table-returns : goal.walk_table-returns
walk_table-returns t c =
    table_taken _ _ _ _ _ _ _ c.if-state-ge-ROWS.false c.if-at-gt-LONGEST.false _ _ _ c.choose_at-choice.ensures
    (sym c.in_ok-number.ensures) c.walk_constructor.ensures

pub walk_table-returns-in_err-number : goal.walk_table-returns-in_err-number
walk_table-returns-in_err-number t c =
    let p = err_from_is_err_and c.from_residual.result c.from_residual.ensures.1 in
    rw (p.1, p.2)
    (table-refused _ _ _ _ _ _ _ c.if-state-ge-ROWS.false c.if-at-gt-LONGEST.false _ _ c.choose_at-choice.ensures
    (sym c.in_err-number.ensures))

pub walk_table-overflow_cast-result : goal.walk_table-overflow_cast-result
walk_table-overflow_cast-result t c = omega (arith, c.requires.close)
