use Rattle.choosing_spec.specs.Table.{pattern_from}
use Rattle.format.specs.Description.{description}
use Rattle.lists.proofs.Below.{any_none, any-more, any_at}
use lib.Dec.{eqb}
use mathlib.Core.Path.{◌≡◌, sym, ◌∙◌}
use mathlib.Core.Bool.{not, ◌&&◌}
use Rattle.clash_check.proofs.has_third.Invariants.{is}
use Rattle.clash_check.proofs.has_third.Goals.{After-same}
use Rattle.clash_check.proofs.has_third.Goals as goal

test-is : (c : After-same)
    → (not (eqb c.loop-t.t c.args.i) && not (eqb c.loop-t.t c.args.j) && c.same.result)
    ≡ is (pattern_from (description c.args.desc.now c.args.layout) c.args.table.first) c.args.i c.args.j c.args.p c.loop-t.t
test-is c = rw (c.same.ensures, c.row-q.ensures)

pub loop-t-init : goal.loop-t-init
loop-t-init c = any_none _

pub returns-then-t-i : goal.returns-then-t-i
returns-then-t-i c = sym (any_at _ _ c.loop-t.t c.loop-t-test.true (sym (test-is (goal.at.returns-then-t-i c).After-same) ∙ c.if-t-i.true))

pub loop-t-preserved : goal.loop-t-preserved
loop-t-preserved c =
    any-more _ c.loop-t.t ∙ rw c.loop-t.invariant (sym (test-is (goal.at.loop-t-preserved c).After-same) ∙ c.if-t-i.false)
