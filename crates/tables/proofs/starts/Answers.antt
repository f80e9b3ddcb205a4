use Prim.Native.Nat.{ℕ, ◌+◌}
use mathlib.Core.Path.{sym, ◌∙◌}
use native.Mathlib.Omega.{arith}
use lib.ListN.{length-replicate}
use Rattle.format.specs.Numbers.{tables}
use Rattle.format.proofs.Lists.{constructors-length}
use Rattle.tables.proofs.Filling.{fill_none, fill-pass, fill-set, fill-all, below-within}
use Rattle.tables.proofs.starts.Goals as goal

pub loop-t-init : goal.loop-t-init
loop-t-init c = fill_none _ _ _ (length-replicate {A = ℕ} (tables + 1) 0)

pub overflow_add-i : goal.overflow_add-i
overflow_add-i c = omega (arith, below-within _ _ _ _ _ c.loop-i.invariant (sym c.is_below.ensures ∙ c.loop-i-test.true))

pub loop-i-smaller : goal.loop-i-smaller
loop-i-smaller c = omega (arith, below-within _ _ _ _ _ c.loop-i.invariant (sym c.is_below.ensures ∙ c.loop-i-test.true))

pub loop-i-preserved : goal.loop-i-preserved
loop-i-preserved c = fill-pass _ _ _ _ _ c.loop-i.invariant (sym c.is_below.ensures ∙ c.loop-i-test.true)

pub loop-t-preserved : goal.loop-t-preserved
loop-t-preserved c = fill-set _ _ _ _ _ c.loop-i.invariant (sym c.is_below.ensures ∙ c.loop-i-test.false) (sym (constructors-length _ _)) c.loop-t-test.true

pub returns : goal.returns
returns c = fill-all _ _ _ _ _ c.loop-t.invariant (omega arith)
