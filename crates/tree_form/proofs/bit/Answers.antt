use mathlib.Core.Path.{refl}
use Rattle.tree_spec.specs.Nodes.{bit_at}
use Rattle.tree_form.proofs.bit.Goals as goal

pub returns : goal.returns
unfolding bit_at
returns c = refl
