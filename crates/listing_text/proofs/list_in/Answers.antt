use mathlib.Core.Bool.{true}
use mathlib.Core.Path.{◌≡◌, refl, sym, ap, ◌∙◌}
use native.Mathlib.Omega.{arith}
use Rattle.format.specs.Description.{description}
use Rattle.setting.proofs.Laws.{fixed-of, setting-of}
use Rattle.text.specs.Prints.{described}
use Rattle.listing_text.proofs.Turns.{first-turn, last_turn, place-there, prefix-long, line-wide, full-turn, count_fits, next-turn, moves, size_fits, lines_fit}
use Rattle.listing_text.proofs.list_in.Goals.{After-fill-fixed}
use Rattle.listing_text.proofs.list_in.Goals as goal

-- the numbers are the description's
found : (c : After-fill-fixed) → described c.args.desc.now c.fill-fixed.result ≡ description c.args.desc.now c.args.layout
found c =
    ap (described c.args.desc.now) c.fill-fixed.ensures ∙ setting-of c.args.desc.now c.args.layout true

pub loop-at-init : goal.loop-at-init
loop-at-init c =
    (first-turn _ _ _ _ _ _ _ _ (rw c.fill-fixed.ensures (fixed-of _ _ true c.requires.0)) c.requires.1, refl)

pub slice_bounds-line_at-end : goal.slice_bounds-line_at-end
slice_bounds-line_at-end c = sym c.loop-at.invariant.1

pub line_at-shown-requires : goal.line_at-shown-requires
line_at-shown-requires c =
    (place-there _ _ _ _ _ _ _ _ _ _ _ _ _ c.loop-at.invariant.0 c.loop-at-test.true, c.loop-at.invariant.1)

pub slice_bounds-line-end : goal.slice_bounds-line-end
slice_bounds-line-end c =
    size_fits _ _ _ _ _ _ _ _ _ _ _ _ _ c.loop-at.invariant.0 c.loop-at-test.true _ c.line_at-shown.ensures.value _ _ c.loop-at.invariant.1 c.line_at-shown.ensures.line_after

pub slice_bounds-put_bytes-end : goal.slice_bounds-put_bytes-end
slice_bounds-put_bytes-end c =
    prefix-long _ _ _ _ _ _ _ _ _ _ _ _ _ c.loop-at.invariant.0 c.loop-at-test.true _ c.line_at-shown.ensures.value _ _ c.loop-at.invariant.1 c.line_at-shown.ensures.line_after

pub returns-in_default : goal.returns-in_default
returns-in_default c =
    rw (found (goal.at.returns-in_default c).After-fill-fixed) at
    (full-turn _ _ _ _ _ _ _ _ _ _ _ _ _ c.loop-at.invariant.0 c.loop-at-test.true _ c.line_at-shown.ensures.value _ _ c.loop-at.invariant.1 c.line_at-shown.ensures.line_after _ _ _ refl c.put_bytes-put.ensures c.in_default.is)

pub overflow_add-bytes : goal.overflow_add-bytes
overflow_add-bytes c =
    omega (arith, count_fits _ _ _ _ _ _ _ _ _ _ _ _ _ c.loop-at.invariant.0 c.loop-at-test.true _ c.line_at-shown.ensures.value _ _ c.loop-at.invariant.1 c.line_at-shown.ensures.line_after _ _ _ refl c.put_bytes-put.ensures _ c.in-Some.is, c.well_formed.1.1.1.1.1.1.1.0)

pub overflow_add-lines : goal.overflow_add-lines
overflow_add-lines c =
    omega (arith, lines_fit _ _ _ _ _ _ _ _ _ _ _ _ _ c.loop-at.invariant.0 c.loop-at-test.true _ c.line_at-shown.ensures.value _ _ c.loop-at.invariant.1 c.line_at-shown.ensures.line_after _ _ _ refl c.put_bytes-put.ensures _ c.in-Some.is, c.well_formed.1.1.1.1.1.1.1.0)

pub loop-at-smaller : goal.loop-at-smaller
loop-at-smaller c =
    omega (arith, moves _ _ _ _ _ _ _ _ _ _ _ _ _ c.loop-at.invariant.0 c.loop-at-test.true _ c.line_at-shown.ensures.value _ _ c.loop-at.invariant.1 c.line_at-shown.ensures.line_after _ _ _ refl c.put_bytes-put.ensures _ c.in-Some.is, c.loop-at-test.true)

pub loop-at-preserved : goal.loop-at-preserved
loop-at-preserved c = (
  next-turn _ _ _ _ _ _ _ _ _ _ _ _ _ c.loop-at.invariant.0 c.loop-at-test.true _ c.line_at-shown.ensures.value _ _ c.loop-at.invariant.1 c.line_at-shown.ensures.line_after _ _ _ refl c.put_bytes-put.ensures _ c.in-Some.is _ c.line_at-shown.ensures.fixed_after _ refl,
  line-wide _ _ _ _ _ _ _ _ _ _ _ _ _ c.loop-at.invariant.0 c.loop-at-test.true _ c.line_at-shown.ensures.value _ _ c.loop-at.invariant.1 c.line_at-shown.ensures.line_after,
)

pub shape_of-out : goal.shape_of-out
shape_of-out c = c.loop-at.invariant.0.kept

pub returns : goal.returns
returns c = rw (found (goal.at.returns c).After-fill-fixed) at (last_turn _ _ _ _ _ _ _ _ _ _ _ _ _ c.loop-at.invariant.0 c.loop-at-test.false)
