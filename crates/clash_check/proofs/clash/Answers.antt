use Rattle.std.specs.Prelude.{Err}
use Rattle.std.proofs.lemmas.Result.{err_from_is_err_and}
use Rattle.format.proofs.Formation.{formed}
use Rattle.clash_check.specs.Entry.{clash_answer}
use mathlib.Core.Path.{sym, ap, ◌∙◌}
use Rattle.clash_check.proofs.clash.Goals as goal

pub clash_in-requires : goal.clash_in-requires
clash_in-requires c = formed _ _ (sym c.check.ensures ∙ c.in_ok-layout.was)

pub returns : goal.returns
unfolding clash_answer
returns c = rw (sym c.check.ensures ∙ c.in_ok-layout.was) c.clash_in.ensures

pub returns-in_err-layout : goal.returns-in_err-layout
unfolding clash_answer
returns-in_err-layout c =
    let e = err_from_is_err_and _ c.from_residual.ensures.1 in
    e.1 ∙ ap Err e.2 ∙ rw (sym c.check.ensures ∙ c.in_err-layout.was)
