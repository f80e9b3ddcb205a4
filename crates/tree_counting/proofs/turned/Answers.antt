use Rattle.tree_counting.specs.Turning.{turn_of}
use borrow.Author.Tests.{eq-eqb, ne_eqb}
use Rattle.tree_counting.proofs.Turning.{cut-context}
use native.Mathlib.Omega.{arith}
use Rattle.tree_counting.proofs.turned.Goals as goal

pub overflow_cast-result : goal.overflow_cast-result
overflow_cast-result c =
    let e = rw c.highest-top.ensures at c.cut.ensures in
    omega (arith, e, cut-context c.args.p c.requires c.if-context-ne0.true c.args.p.contextmask c.requires.contextmask)

pub overflow_cast-result-then-context-ne0 : goal.overflow_cast-result-then-context-ne0
overflow_cast-result-then-context-ne0 c =
    let e = rw c.highest-top.ensures at c.cut-then-context-ne0.ensures in
    omega (arith, e, cut-context c.args.p c.requires c.if-context-ne0.true c.args.p.contextvalue c.requires.contextvalue)

pub returns-then-context-ne0 : goal.returns-then-context-ne0
unfolding turn_of
returns-then-context-ne0 c =
    rw (c.cut.ensures, c.cut-then-context-ne0.ensures, c.highest-top.ensures, ne_eqb _ 0 c.if-context-ne0.true)

pub returns-then-bytes-ne0 : goal.returns-then-bytes-ne0
unfolding turn_of
returns-then-bytes-ne0 c =
    rw (c.cut-then-bytes-ne0.ensures, c.cut-then-bytes-ne0-2.ensures, c.highest-top-then-bytes-ne0.ensures, eq-eqb _ 0 c.if-context-ne0.false, ne_eqb _ 0 c.if-bytes-ne0.true)

pub returns : goal.returns
unfolding turn_of
returns c = rw (eq-eqb _ 0 c.if-context-ne0.false, eq-eqb _ 0 c.if-bytes-ne0.false)
