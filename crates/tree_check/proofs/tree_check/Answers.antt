use Rattle.std.specs.Prelude.{Err}
use Rattle.std.proofs.lemmas.Result.{err_from_is_err_and}
use mathlib.Core.Path.{sym, ap, ◌∙◌}
use Rattle.acceptance.proofs.Facts.{accepted-formed}
use Rattle.tree_check.proofs.tree_check.Goals as goal

pub tree_in-requires : goal.tree_in-requires
tree_in-requires c = accepted-formed _ _ (sym c.accept.ensures ∙ c.in_ok-layout.was)

pub returns : goal.returns
returns c = rw (sym c.accept.ensures ∙ c.in_ok-layout.was) c.tree_in.ensures

pub returns-in_err-layout : goal.returns-in_err-layout
returns-in_err-layout c =
    let e = err_from_is_err_and _ c.from_residual.ensures.1 in
    rw (sym c.accept.ensures ∙ c.in_err-layout.was) (e.1 ∙ ap Err e.2)
