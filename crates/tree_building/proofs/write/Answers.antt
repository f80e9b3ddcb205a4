use Rattle.tree_counting.proofs.Turning.{turns-of}
use Rattle.tree_counting.proofs.Counting.{test_fits, leaf-small}
use Rattle.tree_building.proofs.Trees.{grow-test, grow-whole, grow-side, waits-inside, waits-small, progress_start, progress-valid, never-through}
use native.Mathlib.Omega.{arith}
use mathlib.Core.Path.{sym, ◌∙◌}
use Rattle.tree_building.proofs.write.Goals.{in-Test, in-Leaf+in-Some}
use Rattle.tree_building.proofs.write.Goals as goal

pub loop-i-init : goal.loop-i-init
loop-i-init c = progress_start _ _ _ c.requires.ready.sound _ _

pub node_at-requires : goal.node_at-requires
node_at-requires c =
    let ready = c.requires.ready in
    record { ready = ready; valid_pattern = progress-valid _ _ _ ready.sound _ _ _ _ _ _ c.loop-i.invariant }

pub put_node-requires : goal.put_node-requires
put_node-requires c =
    let ready = c.requires.ready in record { i_in_bounds = omega (arith, c.loop-i.invariant.kept.same, c.requires.count_bound.1, c.loop-i-test.true); place_bound = waits-small _ _ _ ready.sound _ _ _ _ _ _ c.loop-i.invariant c.requires.count_bound.0 }

pub side_of-p-requires : goal.side_of-p-requires
side_of-p-requires c =
    let ready = c.requires.ready in
    let valid = progress-valid _ _ _ ready.sound _ _ _ _ _ _ c.loop-i.invariant in
    let fits = test_fits _ _ _ ready.sound ready.clear _ valid _ _ (sym c.node_at.ensures ∙ c.in-Test.is) in
    (fits.0, fits.1, omega arith)

pub put_node-requires-in-Leaf : goal.put_node-requires-in-Leaf
put_node-requires-in-Leaf c =
    let ready = c.requires.ready in
    let valid = progress-valid _ _ _ ready.sound _ _ _ _ _ _ c.loop-i.invariant in
    record { i_in_bounds = omega (arith, c.loop-i.invariant.kept.same, c.requires.count_bound.1, c.loop-i-test.true); place_bound = leaf-small _ _ _ ready.sound ready.clear _ valid ready.low _ (sym c.node_at.ensures ∙ c.in-Leaf.is) }

pub turned-requires : goal.turned-requires
turned-requires c =
    let ready = c.requires.ready in
    progress-valid _ _ _ ready.sound _ _ _ _ _ _ c.loop-i.invariant

pub returns-in-None : goal.returns-in-None
returns-in-None c =
    let ready = c.requires.ready in
    let puts = c.put_node-in-Leaf.ensures in
    let turns = turns-of _ (progress-valid _ _ _ ready.sound _ _ _ _ _ _ c.loop-i.invariant) _ c.turned.ensures in
    let e = sym c.node_at.ensures ∙ c.in-Leaf.is in
    grow-whole _ _ _ ready.sound ready.clear _ _ _ _ _ _ c.loop-i.invariant c.loop-i-test.true _ e _ puts _ turns c.in-None.is c.requires.count_value

pub place-outer-requires : goal.place-outer-requires
place-outer-requires c =
    let ready = c.requires.ready in
    let puts = c.put_node-in-Leaf.ensures in
    let turns = turns-of _ (progress-valid _ _ _ ready.sound _ _ _ _ _ _ c.loop-i.invariant) _ c.turned.ensures in
    let e = sym c.node_at.ensures ∙ c.in-Leaf.is in
    let l = waits-inside _ _ _ ready.sound ready.clear _ _ _ _ _ _ c.loop-i.invariant c.loop-i-test.true _ e _ puts _ turns _ c.in-Some.is in
    omega (arith, c.loop-i.invariant.kept.same, puts.kept.same, c.requires.count_bound.1, c.loop-i-test.true)

pub put_place-requires : goal.put_place-requires
put_place-requires c =
    let ready = c.requires.ready in
    let puts = c.put_node-in-Leaf.ensures in
    let turns = turns-of _ (progress-valid _ _ _ ready.sound _ _ _ _ _ _ c.loop-i.invariant) _ c.turned.ensures in
    let e = sym c.node_at.ensures ∙ c.in-Leaf.is in
    let l = waits-inside _ _ _ ready.sound ready.clear _ _ _ _ _ _ c.loop-i.invariant c.loop-i-test.true _ e _ puts _ turns _ c.in-Some.is in record { i_in_bounds = omega (arith, c.loop-i.invariant.kept.same, puts.kept.same, c.requires.count_bound.1, c.loop-i-test.true); place_bound = omega (arith, c.requires.count_bound.0, c.loop-i-test.true) }

pub loop-i-preserved : goal.loop-i-preserved
loop-i-preserved c =
    let ready = c.requires.ready in
    elim c.match-node_at.branch [
      | in-Test w ↦
          rw (w.out-is, w.p-is, w.waiting-is)
          (grow-test _ _ _ ready.sound ready.clear _ _ _ _ _ _ c.loop-i.invariant c.loop-i-test.true _ _
          (sym c.node_at.ensures ∙ w.in-Test.is) _ w.put_node.ensures _ w.side_of-p.ensures)
      | in-Leaf+in-Some w ↦
          let turns = turns-of _ (progress-valid _ _ _ ready.sound _ _ _ _ _ _ c.loop-i.invariant) _ w.turned.ensures in
          rw (w.out-is, w.p-is, w.waiting-is, w.place-outer.ensures)
          (grow-side _ _ _ ready.sound ready.clear _ _ _ _ _ _ c.loop-i.invariant c.loop-i-test.true _ (sym c.node_at.ensures ∙ w.in-Leaf.is) _
          w.put_node-in-Leaf.ensures _ turns _ w.in-Some.is _ w.put_place.ensures)
    ]

pub returns : goal.returns
returns c =
    let ready = c.requires.ready in
    absurd (never-through _ _ _ ready.sound ready.clear _ _ _ _ _ _ c.loop-i.invariant c.requires.count_value c.loop-i-test.false)
