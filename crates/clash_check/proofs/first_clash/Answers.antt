use Rattle.clash_check.proofs.Pairs.{quiet-more, pair_found, none_found}
use Rattle.lists.proofs.Below.{all_none}
use native.Mathlib.Omega.{arith}
use mathlib.Core.Path.{◌≡◌, sym, ◌∙◌}
use Rattle.clash_check.proofs.first_clash.Goals as goal

pub loop-i-init : goal.loop-i-init
loop-i-init c = all_none _

pub returns-in-Some : goal.returns-in-Some
returns-in-Some c =
    pair_found _ _ c.loop-i.i _ c.loop-i-test.true (sym c.in-Some.is ∙ c.partner_of.ensures) c.loop-i.invariant

pub loop-i-preserved : goal.loop-i-preserved
loop-i-preserved c = quiet-more _ _ c.loop-i.i _ c.partner_of.ensures c.in_default.not-Some c.loop-i.invariant

pub returns : goal.returns
returns c =
    let s : c.loop-i.i ≡ c.args.table.count = omega arith in
    none_found _ _ (rw s at c.loop-i.invariant)
