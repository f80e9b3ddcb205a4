use mathlib.Core.Path.{sym, ap, ◌∙◌}
use Rattle.std.proofs.Common.{Ok, Err}
use Rattle.std.proofs.lemmas.Result.{err_from_is_err_and}
use Rattle.acceptance.proofs.Facts.{accepted-formed}
use Rattle.sweep.specs.Sweep.{sweep_of, buffer_after}
use Rattle.sweep.proofs.sweep.Goals as goal

-- `sweep::sweep` meets its contract. Assumes nothing.
pub sweep_in-requires : goal.sweep_in-requires
sweep_in-requires c =
    (accepted-formed _ _ (sym c.in_ok-layout.ensures), sym c.is_alignment.ensures ∙ c.if-not-is_alignment.false)

pub returns-in_err-layout : goal.returns-in_err-layout
unfolding sweep_of buffer_after
returns-in_err-layout c =
    let e = err_from_is_err_and _ c.from_residual.ensures.1 in
    let rejected = sym c.in_err-layout.ensures in
    record { value = rw rejected (e.1 ∙ ap Err e.2); rows_after = rw rejected }

pub returns-then-not-is_alignment : goal.returns-then-not-is_alignment
unfolding sweep_of buffer_after
returns-then-not-is_alignment c =
    let accepted = sym c.in_ok-layout.ensures in
    let n = sym c.is_alignment.ensures ∙ c.if-not-is_alignment.true in
    record { value = rw (accepted, n); rows_after = rw (accepted, n) }

pub returns : goal.returns
unfolding sweep_of buffer_after
returns c =
    let accepted = sym c.in_ok-layout.ensures in
    let n = sym c.is_alignment.ensures ∙ c.if-not-is_alignment.false in
    record { value = rw (accepted, n) (ap Ok c.sweep_in.ensures.answer); rows_after = rw (accepted, n) c.sweep_in.ensures.rows }
