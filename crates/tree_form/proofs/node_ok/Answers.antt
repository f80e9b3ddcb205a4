use mathlib.Core.Path.{sym, ◌∙◌}
use borrow.Author.Tests.{eq-eqb, ne_eqb}
use Rattle.tree_spec.specs.Form.{node_ok}
use Rattle.tree_form.proofs.node_ok.Goals as goal

pub returns-then-kind-eq0 : goal.returns-then-kind-eq0
unfolding node_ok
returns-then-kind-eq0 c = rw (eq-eqb _ _ (sym c.kind.ensures ∙ c.if-kind-eq0.true)) c.leaf_ok.ensures

pub returns-else-kind-eq0 : goal.returns-else-kind-eq0
unfolding node_ok
returns-else-kind-eq0 c = rw (ne_eqb _ _ (λ e. c.if-kind-eq0.false (c.kind.ensures ∙ e))) c.test_ok.ensures
