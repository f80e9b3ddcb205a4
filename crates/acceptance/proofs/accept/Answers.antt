use mathlib.Core.Path.{ap, ◌∙◌}
use Rattle.std.specs.Prelude.{Err}
use Rattle.std.proofs.lemmas.Result.{err_from_is_err_and}
use Rattle.acceptance.specs.Acceptance.{accepted_by, acceptance_of}
use Rattle.acceptance.proofs.accept.Goals as goal

pub returns-in_err-layout : goal.returns-in_err-layout
unfolding acceptance_of
returns-in_err-layout c =
    let e = err_from_is_err_and _ c.from_residual.ensures.1 in
    e.1 ∙ ap Err e.2 ∙ ap accepted_by c.in_err-layout.ensures

pub returns : goal.returns
unfolding acceptance_of
returns c = ap accepted_by c.in_ok-layout.ensures
