use Rattle.choosing.proofs.Keeping.{clears-is}
use Rattle.choosing.specs.Scan.{clears, word_match}
use Rattle.choosing.specs.Patterns.{patterns_in}
use Rattle.lists.proofs.Below.{all_none, all_more, all-stop}
use mathlib.Core.Path.{◌≡◌, sym, ◌∙◌}
use mathlib.Core.Bool.{not, ◌&&◌, ◌||◌}
use lib.Dec.{eqb}
use Rattle.choosing.proofs.clears_all.Goals.{After-lies_inside-in-loop-j}
use Rattle.choosing.proofs.clears_all.Goals as goal

-- the test is the definition's, at record j
clear-is : (c : After-lies_inside-in-loop-j)
    → (eqb c.loop-j.j c.args.t || not (c.agrees.result && c.whole.result) || (c.lies_inside.result && not c.lies_inside-in-loop-j.result))
    ≡ clears (patterns_in c.args.desc.now c.args.constructors c.args.table) (word_match (patterns_in c.args.desc.now c.args.constructors c.args.table) c.args.input) c.args.t c.loop-j.j
clear-is c =
    clears-is (patterns_in c.args.desc.now c.args.constructors c.args.table) c.args.input c.loop-j.j c.pattern_in-p.result c.pattern_in-p.ensures c.args.t
    c.pattern_in-q.result c.agrees.result c.whole.result c.lies_inside.result c.lies_inside-in-loop-j.result
    c.pattern_in-q.ensures c.agrees.ensures c.whole.ensures c.lies_inside.ensures c.lies_inside-in-loop-j.ensures

pub loop-j-init : goal.loop-j-init
loop-j-init c = all_none _

pub loop-j-preserved : goal.loop-j-preserved
loop-j-preserved c =
    all_more _ c.loop-j.j c.loop-j.invariant (sym (clear-is (goal.at.loop-j-preserved c).After-lies_inside-in-loop-j) ∙ c.if-not-clear.false)

pub returns-then-not-clear : goal.returns-then-not-clear
returns-then-not-clear c =
    sym (all-stop _ _ c.loop-j.j c.loop-j-test.true (sym (clear-is (goal.at.returns-then-not-clear c).After-lies_inside-in-loop-j) ∙ c.if-not-clear.true))
