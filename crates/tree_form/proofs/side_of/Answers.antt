use Rattle.tree_form.proofs.Sides.{side-byte, side-context}
use Rattle.tree_form.proofs.side_of.Goals as goal

pub returns-then-kind-eq1 : goal.returns-then-kind-eq1
returns-then-kind-eq1 c =
    side-byte _ _ _ _ c.if-kind-eq1.true c.requires.0 c.requires.2

pub returns : goal.returns
returns c =
    side-context _ _ _ _ c.if-kind-eq1.false (c.requires.1 c.if-kind-eq1.false) c.requires.2
