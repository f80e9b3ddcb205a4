use Rattle.walk_steps.proofs.Steps.{computed-full, computed-far, computed-short, computed-put}
use Rattle.walk_steps.proofs.computed_from.Goals as goal

-- `walk_steps::computed_from` meets its contract. Assumes nothing.
pub returns-then-state-ge-ROWS : goal.returns-then-state-ge-ROWS
returns-then-state-ge-ROWS c g e = computed-full g _ _ _ _ c.if-state-ge-ROWS.true

pub returns-then-place-gt-LONGEST : goal.returns-then-place-gt-LONGEST
returns-then-place-gt-LONGEST c g e = computed-far g _ _ _ _ c.if-state-ge-ROWS.false c.if-place-gt-LONGEST.true

pub returns-then-fixed-place : goal.returns-then-fixed-place
returns-then-fixed-place c g e = computed-short g _ _ _ _ c.if-state-ge-ROWS.false c.if-place-gt-LONGEST.false (rw e c.if-fixed-place.true)

pub returns : goal.returns
returns c =
    rw c.one_more.ensures
    (λ g e.
    computed-put g _ _ _ _ c.if-state-ge-ROWS.false c.if-place-gt-LONGEST.false _ (rw e c.if-fixed-place.false)
    (rw c.from.ensures at c.put_row.ensures))
