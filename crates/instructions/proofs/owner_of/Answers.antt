use Prim.Native.Nat.{◌-◌}
use mathlib.Core.Path.{◌≡◌, ◌∙◌}
use native.Mathlib.Omega.{arith}
use Rattle.scratch_rows.specs.Places.{size_at}
use Rattle.instructions.proofs.Gathering.{owner-found, owner-on, owner-none}
use Rattle.instructions.proofs.owner_of.Goals as goal

pub returns-then-row-k : goal.returns-then-row-k
unfolding size_at
returns-then-row-k c =
    let k = c.loop-k.k in
    let size : c.column-size.result ≡ size_at c.args.rows.now (k - 1) = c.column-size.ensures in
    owner-found _ _ k c.loop-k-test.true (omega (arith, size, c.if-row-k.true, c.loop-k.auto.k)) ∙ c.loop-k.invariant

pub loop-k-preserved : goal.loop-k-preserved
unfolding size_at
loop-k-preserved c =
    let k = c.loop-k.k in
    let size : c.column-size.result ≡ size_at c.args.rows.now (k - 1) = c.column-size.ensures in
    owner-on _ _ k c.loop-k-test.true (omega (arith, size, c.if-row-k.false, c.loop-k.auto.k)) ∙ c.loop-k.invariant

pub returns : goal.returns
returns c = owner-none _ _ c.loop-k.k c.loop-k-test.false ∙ c.loop-k.invariant
