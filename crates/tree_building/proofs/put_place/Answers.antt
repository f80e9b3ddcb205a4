use Rattle.tree_building.proofs.Putting.{put-place}
use Rattle.tree_building.proofs.put_place.Goals as goal

pub returns : goal.returns
returns c = put-place _ _ _ _ c.put_word.ensures
