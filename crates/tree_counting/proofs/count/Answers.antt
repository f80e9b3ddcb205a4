use Rattle.tree_counting.proofs.Turning.{turns-of}
use Rattle.tree_counting.proofs.Counting.{test_fits, seen-zero, seen-side, seen-whole, seen-too-many}
use Rattle.tree_counting.proofs.Paths.{seen-valid}
use Rattle.tree_counting.specs.Seen.{begin}
use native.Mathlib.Omega.{arith}
use mathlib.Core.Path.{sym, ◌∙◌}
use Rattle.tree_counting.proofs.count.Goals.{in-Test, in-Leaf+in-Some}
use Rattle.tree_counting.proofs.count.Goals as goal

pub loop-before-init : goal.loop-before-init
loop-before-init c = begin

pub node_at-requires-clause-valid_pattern : goal.node_at-requires-clause-valid_pattern
node_at-requires-clause-valid_pattern c = seen-valid _ _ _ c.requires.sound c.loop-before.invariant

pub side_of-p-requires : goal.side_of-p-requires
side_of-p-requires c =
    let ready = c.requires in
    let valid = seen-valid _ _ _ ready.sound c.loop-before.invariant in
    let fits = test_fits _ _ _ ready.sound ready.clear _ valid _ _ (sym c.node_at.ensures ∙ c.in-Test.is) in
    (fits.0, fits.1, omega arith)

pub turned-requires : goal.turned-requires
turned-requires c = seen-valid _ _ _ c.requires.sound c.loop-before.invariant

pub returns-in-None : goal.returns-in-None
returns-in-None c =
    let ready = c.requires in
    seen-whole _ _ _ ready.sound ready.clear _ _ c.loop-before.invariant _ _ (sym c.node_at.ensures ∙ c.in-Leaf.is)
    _ (turns-of _ (seen-valid _ _ _ ready.sound c.loop-before.invariant) _ c.turned.ensures) c.in-None.is c.loop-before-test.true

pub loop-before-preserved : goal.loop-before-preserved
loop-before-preserved c =
    let ready = c.requires in
    elim c.match-node_at.branch [
      | in-Test w ↦
          rw w.p-is
          (seen-zero _ _ _ ready.sound ready.clear _ _ c.loop-before.invariant _ _ (sym c.node_at.ensures ∙ w.in-Test.is) _ w.side_of-p.ensures)
      | in-Leaf+in-Some w ↦
          rw w.p-is
          (seen-side _ _ _ ready.sound ready.clear _ _ c.loop-before.invariant _ (sym c.node_at.ensures ∙ w.in-Leaf.is) _ _
          (turns-of _ (seen-valid _ _ _ ready.sound c.loop-before.invariant) _ w.turned.ensures) w.in-Some.is)
    ]

pub returns : goal.returns
returns c =
    let ready = c.requires in
    seen-too-many _ _ _ ready.sound ready.clear _ _ c.loop-before.invariant _ c.loop-before-test.false
