use Rattle.std.proofs.lemmas.Result.{err_from_is_err_and}
use Rattle.instructions.proofs.Evaluating.{settled-none, settled-all, settled-stop, settled-next}
use Rattle.instructions.proofs.settle.Goals as goal

pub loop-row-init : goal.loop-row-init
loop-row-init c = settled-none _ _ _ _ _ c.requires.1

pub settle_row-requires : goal.settle_row-requires
settle_row-requires c =
    record { fixed = c.requires.0; readable = c.loop-row.invariant.readable; within = c.loop-row-test.true }

pub returns-in_err-settle_row : goal.returns-in_err-settle_row
returns-in_err-settle_row c =
    let p = err_from_is_err_and c.from_residual.result c.from_residual.ensures.1 in
    rw (p.1, p.2) (settled-stop _ _ _ _ _ _ _ c.loop-row.invariant c.loop-row-test.true _ _ c.settle_row.ensures _ c.in_err-settle_row.was _)

pub loop-row-preserved : goal.loop-row-preserved
loop-row-preserved c =
    settled-next _ _ _ _ _ _ _ c.loop-row.invariant c.loop-row-test.true _ _ c.settle_row.ensures c.in_ok-settle_row.was c.settle_row.auto.rows

pub shape_of-rows : goal.shape_of-rows
shape_of-rows c = c.loop-row.invariant.kept

pub returns : goal.returns
returns c = settled-all _ _ _ _ _ _ _ c.loop-row.invariant c.loop-row-test.false
