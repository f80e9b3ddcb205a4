use mathlib.Core.Path.{sym, ◌∙◌}
use Rattle.tree_form.proofs.Nodes.{test-byte, test-context, test-none}
use Rattle.tree_form.proofs.test_ok.Goals as goal

pub returns-then-kind-eq1 : goal.returns-then-kind-eq1
returns-then-kind-eq1 c = c.fresh.ensures ∙ rw c.bit-bit.ensures (sym (test-byte _ _ _ (sym c.kind-kind.ensures ∙ c.if-kind-eq1.true)))

pub returns-then-kind-eq2 : goal.returns-then-kind-eq2
returns-then-kind-eq2 c =
    c.fresh-then-kind-eq2.ensures ∙ rw c.bit-bit.ensures (sym (test-context _ _ _ (sym c.kind-kind.ensures ∙ c.if-kind-eq2.true)))

pub returns : goal.returns
returns c = sym (test-none _ _ _ (λ e. c.if-kind-eq1.false (c.kind-kind.ensures ∙ e)) (λ e. c.if-kind-eq2.false (c.kind-kind.ensures ∙ e)))
