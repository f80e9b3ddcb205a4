use mathlib.Core.Path.{refl, sym, ◌∙◌}
use native.Mathlib.Omega.{arith}
use lib.Seq.{length-take-le}
use Rattle.listing_run.proofs.Parts.{bytes-there, falls}
use Rattle.listing_run.proofs.run.Goals as goal

pub slice_bounds-list_input-end : goal.slice_bounds-list_input-end
slice_bounds-list_input-end c = sym c.loop-part.invariant

pub slice_bounds-text-end : goal.slice_bounds-text-end
slice_bounds-text-end c =
    bytes-there _ c.loop-part.part.next c.loop-part.text _ c.list_input-next.ensures.value _ c.list_input-next.ensures.out_after

pub slice_bounds-write_all-end : goal.slice_bounds-write_all-end
slice_bounds-write_all-end c =
    sym (length-take-le _ _ (bytes-there _ c.loop-part.part.next c.loop-part.text _ c.list_input-next.ensures.value _ c.list_input-next.ensures.out_after))

pub loop-part-smaller : goal.loop-part-smaller
loop-part-smaller c =
    falls _ c.loop-part.part.next c.loop-part.text _ c.list_input-next.ensures.value c.loop-part.part c.loop-part-test.true refl (omega (arith, c.loop-part.invariant))

pub loop-part-preserved : goal.loop-part-preserved
loop-part-preserved c = c.list_input-next.auto.out ∙ c.loop-part.invariant
