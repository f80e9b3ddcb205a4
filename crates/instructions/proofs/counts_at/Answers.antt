use mathlib.Core.Path.{◌≡◌, refl}
use native.Mathlib.Omega.{arith}
use mir.Facts.{to_z-of_z}
use Rattle.scratch_rows.specs.Places.{size_at}
use Rattle.instructions.proofs.Gathering.{gather_none, gather-end, gather-more, gather-all}
use Rattle.instructions.proofs.counts_at.Goals as goal

pub overflow_mul-owner : goal.overflow_mul-owner
overflow_mul-owner c = omega (arith, c.requires.within, c.requires.readable.few)

pub overflow_add-owner : goal.overflow_add-owner
overflow_add-owner c = omega (arith, c.requires.within, c.requires.readable.few)

pub column-requires : goal.column-requires
column-requires c = omega (arith, c.requires.within, c.requires.readable.few, c.requires.readable.long)

pub overflow_add-end : goal.overflow_add-end
unfolding size_at
overflow_add-end c =
    let size : c.column.result ≡ size_at c.args.rows.now c.args.owner = c.column.ensures in
    omega (arith, size, (c.requires.readable.row _ c.requires.within).ends, c.requires.readable.few)

pub overflow_add-row : goal.overflow_add-row
overflow_add-row c =
    omega (arith, c.requires.within, c.requires.readable.few)

pub loop-o-init : goal.loop-o-init
unfolding size_at
loop-o-init c =
    let size : c.column.result ≡ size_at c.args.rows.now c.args.owner = c.column.ensures in
    gather_none _ _ _ _ _ _ refl (omega (arith, c.requires.within)) (omega (arith, size))

pub returns-then-end-row : goal.returns-then-end-row
returns-then-end-row c = gather-end _ _ _ _ _ _ _ _ c.loop-o.invariant c.if-end-row.true

pub count_at-requires : goal.count_at-requires
unfolding size_at
count_at-requires c =
    let size : c.column.result ≡ size_at c.args.rows.now c.args.owner = c.column.ensures in
    let end = (c.requires.readable.row _ c.requires.within).ends in
    record { fixed = c.requires.fixed; readable = c.requires.readable; within = omega (arith, size, end, c.if-end-row.false) }

pub overflow_mul-row : goal.overflow_mul-row
unfolding size_at
overflow_mul-row c =
    let size : c.column.result ≡ size_at c.args.rows.now c.args.owner = c.column.ensures in
    let end = (c.requires.readable.row _ c.requires.within).ends in
    omega (arith, size, end, c.if-end-row.false, c.requires.readable.few)

pub overflow_add-row-in-loop-o : goal.overflow_add-row-in-loop-o
unfolding size_at
overflow_add-row-in-loop-o c =
    let size : c.column.result ≡ size_at c.args.rows.now c.args.owner = c.column.ensures in
    let end = (c.requires.readable.row _ c.requires.within).ends in
    omega (arith, size, end, c.if-end-row.false, c.requires.readable.few)

pub column-row-requires : goal.column-row-requires
unfolding size_at
column-row-requires c =
    let size : c.column.result ≡ size_at c.args.rows.now c.args.owner = c.column.ensures in
    let end = (c.requires.readable.row _ c.requires.within).ends in
    omega (arith, size, end, c.if-end-row.false, c.requires.readable.few, c.requires.readable.long)

pub overflow_add-row-in-loop-o-2 : goal.overflow_add-row-in-loop-o-2
unfolding size_at
overflow_add-row-in-loop-o-2 c =
    let row = c.loop-o.row in
    let size : c.column.result ≡ size_at c.args.rows.now c.args.owner = c.column.ensures in
    let own : c.column-row.result ≡ size_at c.args.rows.now row = c.column-row.ensures in
    let end = (c.requires.readable.row _ c.requires.within).ends in
    let next = (c.requires.readable.row row (omega (arith, size, end, c.if-end-row.false))).ends in
    omega (arith, own, next, c.requires.readable.few)

pub loop-o-preserved : goal.loop-o-preserved
unfolding size_at
loop-o-preserved c =
    let row = c.loop-o.row in
    let size : c.column.result ≡ size_at c.args.rows.now c.args.owner = c.column.ensures in
    let own : c.column-row.result ≡ size_at c.args.rows.now row = c.column-row.ensures in
    let end = (c.requires.readable.row _ c.requires.within).ends in
    let next = (c.requires.readable.row row (omega (arith, size, end, c.if-end-row.false))).ends in
    rw own
    (gather-more _ _ _ _ _ _ _ _ c.loop-o.invariant c.loop-o-test.true c.if-end-row.false next _ (rw (to_z-of_z (record { sfits = c.count_at.type_inv })) c.count_at.ensures))

pub returns : goal.returns
returns c = gather-all _ _ _ _ _ _ _ _ c.loop-o.invariant c.loop-o-test.false
