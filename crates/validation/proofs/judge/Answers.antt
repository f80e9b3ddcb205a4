use mathlib.Core.Path.{sym}
use native.Mathlib.Omega.{arith}
use borrow.Author.Tests.{lt-ltb, le-ltb}
use Rattle.section_theorems.proofs.Search.{search-start, search-step, search-stop, search-done, record-step}
use Rattle.validation.proofs.judge.Goals as goal

pub loop-i-init : goal.loop-i-init
loop-i-init g c = (omega arith, λ rule none same. search-start)

pub loop-i-preserved : goal.loop-i-preserved
loop-i-preserved g c = (
  rw c.read-r.ensures (record-step g.T.Record.BYTES c.args.records c.loop-i.i c.loop-i.c.at c.loop-i.invariant.0),
  λ rule none same.
      let p = rw (c.read-r.ensures, c.loop-i.invariant.0) at c.if-not-good.ensures in
      rw c.read-r.ensures
      (search-step (c.loop-i.invariant.1 rule none same) c.loop-i-test.true
      (rw c.loop-i.invariant.0 (sym (same c.loop-i.i _ c.loop-i-test.true p)))),
)

pub returns-then-not-good : goal.returns-then-not-good
returns-then-not-good g c = λ rule none same.
    let p = rw (c.read-r.ensures, c.loop-i.invariant.0) at c.if-not-good.ensures in
    let stopped =
    search-stop (c.loop-i.invariant.1 rule none same) c.loop-i-test.true
    (rw c.loop-i.invariant.0 (sym (same c.loop-i.i _ c.loop-i-test.true p))) in
    rw (← stopped, lt-ltb c.loop-i.i c.args.records.count c.loop-i-test.true)

pub returns : goal.returns
returns g c = λ rule none same.
    let n = c.args.records.count in
    let done = search-done (c.loop-i.invariant.1 rule none same) c.loop-i-test.false in
    rw (← done, le-ltb n n (omega arith))
