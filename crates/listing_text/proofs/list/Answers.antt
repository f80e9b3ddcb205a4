use mathlib.Core.Path.{sym, ap, ◌∙◌}
use Rattle.std.proofs.Common.{Ok, Err}
use Rattle.std.proofs.lemmas.Result.{err_from_is_err_and}
use Rattle.acceptance.proofs.Facts.{accepted-formed}
use Rattle.listing_text.specs.Listing.{list_of, list_after}
use Rattle.listing_text.proofs.list.Goals as goal

-- `listing_text::list` meets its contract. Assumes nothing.
pub list_in-part-requires : goal.list_in-part-requires
list_in-part-requires c =
    (accepted-formed _ _ (sym c.in_ok-layout.ensures), sym c.is_alignment.ensures ∙ c.if-not-is_alignment.false)

pub returns-in_err-layout : goal.returns-in_err-layout
unfolding list_of list_after
returns-in_err-layout c =
    let e = err_from_is_err_and _ c.from_residual.ensures.1 in
    let rejected = sym c.in_err-layout.ensures in
    record { value = rw rejected (e.1 ∙ ap Err e.2); out_after = rw rejected }

pub returns-then-not-is_alignment : goal.returns-then-not-is_alignment
unfolding list_of list_after
returns-then-not-is_alignment c =
    let accepted = sym c.in_ok-layout.ensures in
    let n = sym c.is_alignment.ensures ∙ c.if-not-is_alignment.true in
    record { value = rw (accepted, n); out_after = rw (accepted, n) }

pub returns : goal.returns
unfolding list_of list_after
returns c =
    let accepted = sym c.in_ok-layout.ensures in
    let n = sym c.is_alignment.ensures ∙ c.if-not-is_alignment.false in
    record { value = rw (accepted, n) (ap Ok c.list_in-part.ensures.answer); out_after = rw (accepted, n) c.list_in-part.ensures.text }
