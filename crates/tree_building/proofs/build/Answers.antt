use Rattle.std.specs.Prelude.{Err}
use Rattle.std.proofs.lemmas.Result.{err_from_is_err_and}
use Rattle.acceptance.proofs.Facts.{accepted-formed}
use Rattle.tree_building.specs.Building.{build_of, build_after}
use mathlib.Core.Path.{sym, ap, ◌∙◌}
use Rattle.tree_building.proofs.build.Goals as goal

pub build_in-requires : goal.build_in-requires
build_in-requires c = accepted-formed _ _ (sym c.accept.ensures ∙ c.in_ok-layout.was)

pub returns : goal.returns
unfolding build_of build_after
returns c =
    let e = sym c.accept.ensures ∙ c.in_ok-layout.was in
    record { value = rw e c.build_in.ensures.answer; out_after = rw e c.build_in.ensures.bytes }

pub returns-in_err-layout : goal.returns-in_err-layout
unfolding build_of build_after
returns-in_err-layout c =
    let e = sym c.accept.ensures ∙ c.in_err-layout.was in
    let f = err_from_is_err_and _ c.from_residual.ensures.1 in
    record { value = rw e (f.1 ∙ ap Err f.2); out_after = rw e }
