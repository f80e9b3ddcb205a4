use Rattle.tree_spec.specs.Form.{leaf_ok}
use Rattle.tree_form.proofs.leaf_ok.Goals as goal

pub returns : goal.returns
unfolding leaf_ok
returns c = rw (c.bit.ensures, c.place-place.ensures)
