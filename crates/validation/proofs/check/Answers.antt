use mathlib.Core.Path.{sym, ap, ◌∙◌}
use Rattle.std.proofs.Common.{rules}
use Rattle.std.specs.Prelude.{Err}
use Rattle.std.proofs.lemmas.Result.{err_from_is_err_and}
use Rattle.format.specs.Check.{judged, check_of}
use Rattle.format.proofs.Places.{laid-room}
use Rattle.validation.proofs.Laid.{laid, unlaid_fault}
use Rattle.validation.proofs.check.Goals as goal

pub returns-in_err-layout : goal.returns-in_err-layout
unfolding check_of
returns-in_err-layout c =
    let b = c.args.desc.now in
    let g = err_from_is_err_and c.from_residual.result c.from_residual.ensures.1 in
    g.1 ∙ ap Err g.2
    ∙ sym (unlaid_fault _ c.read_layout.result c.map_err.result c.map_err.ensures.cases b c.in_err-layout.field-0.0 c.in_err-layout.was (λ k r p. search rules))
    ∙ ap (judged b) c.read_layout.ensures

pub first_fault-requires : goal.first_fault-requires
first_fault-requires c =
    laid-room _ _ (sym c.read_layout.ensures ∙ laid _ c.read_layout.result c.map_err.result c.map_err.ensures.cases _ c.in_ok-layout.was)

pub returns : goal.returns
unfolding check_of
returns c =
    rw (sym c.read_layout.ensures ∙ laid _ c.read_layout.result c.map_err.result c.map_err.ensures.cases _ c.in_ok-layout.was)
    c.first_fault.ensures
