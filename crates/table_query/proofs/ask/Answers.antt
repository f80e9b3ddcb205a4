use Rattle.std.specs.Prelude.{Err}
use Rattle.std.proofs.lemmas.Result.{err_from_is_err_and}
use Rattle.acceptance.proofs.Facts.{accepted-formed}
use Rattle.table_query.specs.Asking.{ask_of}
use mathlib.Core.Path.{sym, ap, ◌∙◌}
use Rattle.table_query.proofs.ask.Goals as goal

pub ask_in-requires : goal.ask_in-requires
ask_in-requires c = accepted-formed _ _ (sym c.accept.ensures ∙ c.in_ok-layout.was)

pub returns : goal.returns
unfolding ask_of
returns c = rw (sym c.accept.ensures ∙ c.in_ok-layout.was) c.ask_in.ensures

pub returns-in_err-layout : goal.returns-in_err-layout
unfolding ask_of
returns-in_err-layout c =
    let e = err_from_is_err_and _ c.from_residual.ensures.1 in
    e.1 ∙ ap Err e.2 ∙ rw (sym c.accept.ensures ∙ c.in_err-layout.was)
