use mathlib.Core.Path.{refl}
use Rattle.tree_spec.specs.Nodes.{kind_at}
use Rattle.tree_form.proofs.kind.Goals as goal

pub returns : goal.returns
unfolding kind_at
returns c = refl
