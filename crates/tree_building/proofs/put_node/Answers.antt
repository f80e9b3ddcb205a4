use Rattle.tree_building.proofs.Putting.{put-node}
use Rattle.tree_building.proofs.put_node.Goals as goal

pub returns : goal.returns
returns c =
    put-node _ _ _ _ _ c.requires.i_in_bounds _ c.put_place.ensures
