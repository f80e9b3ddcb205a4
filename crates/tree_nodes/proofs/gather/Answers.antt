use Rattle.tree_nodes.proofs.Gathered.{gathered-live, gathered-dead}
use Rattle.tree_nodes.specs.Gathering.{gathered}
use mathlib.Core.Path.{refl, sym, ◌∙◌}
use Rattle.tree_nodes.proofs.gather.Goals.{then-overlaps, else-overlaps}
use Rattle.tree_nodes.proofs.gather.Goals as goal

pub loop-j-init : goal.loop-j-init
unfolding gathered
loop-j-init c = refl

pub loop-j-preserved : goal.loop-j-preserved
loop-j-preserved c =
    elim c.if-overlaps.branch [
      | then-overlaps w ↦
          w.live-is ∙ (w.with_live-live.ensures
          ∙ gathered-live _ _ _ _ _ _ c.loop-j.invariant c.pattern_in-q.ensures (sym c.overlaps.ensures ∙ w.if-overlaps.true))
      | else-overlaps w ↦
          w.live-is ∙ gathered-dead _ _ _ _ _ _ c.loop-j.invariant c.pattern_in-q.ensures (sym c.overlaps.ensures ∙ w.if-overlaps.false)
    ]
