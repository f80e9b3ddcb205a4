use Rattle.clash_check.proofs.Pairs.{parted-first, parted-more, partner-stop, partner-done}
use native.Mathlib.Omega.{arith}
use mathlib.Core.Path.{◌≡◌, sym, ◌∙◌}
use Rattle.clash_check.proofs.partner_of.Goals as goal

pub loop-j-init : goal.loop-j-init
loop-j-init c = parted-first _ _ _

pub returns-then-clashes : goal.returns-then-clashes
returns-then-clashes c =
    partner-stop _ _ _ c.loop-j.j (omega arith) c.loop-j-test.true (sym c.clashes.ensures ∙ c.if-clashes.true) c.loop-j.invariant

pub loop-j-preserved : goal.loop-j-preserved
loop-j-preserved c =
    parted-more _ _ _ c.loop-j.j (omega arith) (sym c.clashes.ensures ∙ c.if-clashes.false) c.loop-j.invariant

pub returns : goal.returns
returns c =
    let s : c.loop-j.j ≡ c.args.table.count = omega arith in
    partner-done _ _ _ (rw s at c.loop-j.invariant)
