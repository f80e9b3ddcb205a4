use Rattle.tree_spec.specs.Nodes.{place_at}
use Rattle.tree_form.proofs.place.Goals as goal

pub returns : goal.returns
unfolding place_at
returns c = c.word.ensures
