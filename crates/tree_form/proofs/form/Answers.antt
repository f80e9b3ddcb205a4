use mathlib.Core.Bool.{true}
use mathlib.Core.Path.{◌≡◌, refl, sym, ◌∙◌}
use native.Mathlib.Omega.{arith}
use Rattle.tree_spec.specs.Form.{counted}
use Rattle.tree_form.proofs.Trees.{sized}
use Rattle.tree_form.proofs.Steps.{form-counted, form-miscounted}
use Rattle.tree_form.proofs.form.Goals.{Else-not-count_ok}
use Rattle.tree_form.proofs.form.Goals as goal

form-is-counted : (c : Else-not-count_ok) → counted c.args.tree.now ≡ true
form-is-counted c = sym c.count_ok.ensures ∙ c.if-not-count_ok.false

pub word-count-requires : goal.word-count-requires
word-count-requires c =
    let h = sized c.args.tree.now (form-is-counted (goal.at.word-count-requires c).Else-not-count_ok) in
    omega (arith, h.bytes)

pub walk-requires : goal.walk-requires
walk-requires c =
    let h = sized c.args.tree.now (form-is-counted (goal.at.walk-requires c).Else-not-count_ok) in
    rw c.word-count.ensures (record { count_value = (refl, omega (arith, h.bytes), h.few); n_bound = c.requires })

pub returns : goal.returns
returns c =
    c.end.ensures ∙ rw c.word-count.ensures
    (form-counted _ _ _ _ (form-is-counted (goal.at.returns c).Else-not-count_ok) c.walk.ensures)

pub returns-then-not-count_ok : goal.returns-then-not-count_ok
returns-then-not-count_ok c = form-miscounted _ _ _ (sym c.count_ok.ensures ∙ c.if-not-count_ok.true)
