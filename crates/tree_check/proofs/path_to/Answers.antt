use Rattle.tree_check.proofs.Standing.{stand-first, stand-done, stand-test, stand-zero, stand-one}
use native.Mathlib.Omega.{arith}
use Rattle.tree_check.proofs.path_to.Goals as goal

pub loop-t-init : goal.loop-t-init
loop-t-init c = stand-first _ _ _ _ c.requires.tree_value c.requires.leaf_bound c.requires.leaf_value

pub kind-kind-requires : goal.kind-kind-requires
kind-kind-requires c =
    let q = stand-test _ _ _ _ c.loop-t.invariant c.loop-t-test.true in
    omega (arith, q.here, c.loop-t.invariant.bytes)

pub bit-bit-requires : goal.bit-bit-requires
bit-bit-requires c =
    let q = stand-test _ _ _ _ c.loop-t.invariant c.loop-t-test.true in
    omega (arith, q.here, c.loop-t.invariant.bytes)

pub place-place-requires : goal.place-place-requires
place-place-requires c =
    let q = stand-test _ _ _ _ c.loop-t.invariant c.loop-t-test.true in
    omega (arith, q.here, c.loop-t.invariant.bytes)

pub side_of-p-requires : goal.side_of-p-requires
side_of-p-requires c =
    let q = stand-test _ _ _ _ c.loop-t.invariant c.loop-t-test.true in
    rw (c.bit-bit.ensures, c.kind-kind.ensures) (q.low, q.narrow, omega arith)

pub loop-t-preserved-then-leaf-place : goal.loop-t-preserved-then-leaf-place
loop-t-preserved-then-leaf-place c =
    rw (c.side_of-p.ensures, c.kind-kind.ensures, c.bit-bit.ensures)
    (stand-zero _ _ _ _ c.loop-t.invariant c.loop-t-test.true (rw c.place-place.ensures at c.if-leaf-place.true))

pub side_of-p-requires-else-leaf-place : goal.side_of-p-requires-else-leaf-place
side_of-p-requires-else-leaf-place c =
    let q = stand-test _ _ _ _ c.loop-t.invariant c.loop-t-test.true in
    rw (c.bit-bit.ensures, c.kind-kind.ensures) (q.low, q.narrow, omega arith)

pub loop-t-smaller : goal.loop-t-smaller
loop-t-smaller c =
    let q = stand-test _ _ _ _ c.loop-t.invariant c.loop-t-test.true in
    omega (arith, q.ahead, c.place-place.ensures)

pub loop-t-preserved : goal.loop-t-preserved
loop-t-preserved c =
    rw (c.side_of-p-else-leaf-place.ensures, c.kind-kind.ensures, c.bit-bit.ensures, c.place-place.ensures)
    (stand-one _ _ _ _ c.loop-t.invariant c.loop-t-test.true (rw c.place-place.ensures at c.if-leaf-place.false))

pub returns : goal.returns
returns c = stand-done _ _ _ _ c.loop-t.invariant c.loop-t-test.false
