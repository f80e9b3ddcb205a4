use Rattle.tree_nodes.specs.Gathering.{with_live}
use Rattle.tree_nodes.proofs.with_live.Goals as goal

pub returns-then-q-mask : goal.returns-then-q-mask
unfolding with_live
returns-then-q-mask c = rw c.if-q-mask.true

pub returns : goal.returns
unfolding with_live
returns c = rw c.if-q-mask.false
