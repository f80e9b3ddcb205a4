use mathlib.Core.Path.{refl, sym, ◌∙◌}
use native.Mathlib.Omega.{arith}
use Rattle.acceptance.proofs.Facts.{accepted-formed}
use Rattle.listing_text.specs.Listing.{input_window}
use Rattle.listing_text.proofs.Splitting.{in_order, description-there, code-there}
use Rattle.listing_text.proofs.list_input.Goals as goal

pub slice_bounds-desc-count : goal.slice_bounds-desc-count
slice_bounds-desc-count c = omega (arith, (in_order _ _ c.take_apart-split.ensures).0)

pub slice_bounds-desc-start : goal.slice_bounds-desc-start
slice_bounds-desc-start c = omega (arith, (in_order _ _ c.take_apart-split.ensures).0)

pub slice_bounds-desc-end : goal.slice_bounds-desc-end
slice_bounds-desc-end c = omega (arith, (in_order _ _ c.take_apart-split.ensures).1, (in_order _ _ c.take_apart-split.ensures).2)

pub slice_bounds-code-count : goal.slice_bounds-code-count
slice_bounds-code-count c = omega (arith, (in_order _ _ c.take_apart-split.ensures).1)

pub slice_bounds-code-start : goal.slice_bounds-code-start
slice_bounds-code-start c = omega (arith, (in_order _ _ c.take_apart-split.ensures).1)

pub slice_bounds-code-end : goal.slice_bounds-code-end
slice_bounds-code-end c = omega (arith, (in_order _ _ c.take_apart-split.ensures).2)

pub list_in-requires : goal.list_in-requires
list_in-requires c = (accepted-formed _ _ (sym c.accept.ensures ∙ c.in-Ok.is), refl)

pub returns-in-Ok : goal.returns-in-Ok
unfolding input_window
returns-in-Ok c =
    let split = c.take_apart-split.ensures in
    let b = description-there c.args.input.now _ split in
    let s = code-there c.args.input.now _ split in
    let e = rw b at (sym c.accept.ensures ∙ c.in-Ok.is) in
    let h = c.list_in.ensures in
    record { value = rw e (rw (b, s) at h.answer); out_after = rw e (rw (b, s) at h.text) }

pub returns-in-Err : goal.returns-in-Err
unfolding input_window
returns-in-Err c =
    let b = description-there c.args.input.now _ c.take_apart-split.ensures in
    let e = rw b at (sym c.accept.ensures ∙ c.in-Err.is) in
    let h = c.list_fault.ensures in
    record { value = rw e h.answer; out_after = rw e h.text }
