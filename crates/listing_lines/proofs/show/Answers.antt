use Prim.Native.Nat.{ℕ, ◌+◌, ◌-◌}
use mathlib.Core.Path.{◌≡◌, sym, ap, ◌∙◌}
use native.Mathlib.Omega.{arith}
use lib.ListN.{length}
use Rattle.alignment.proofs.Laws.{gap-inside}
use Rattle.listing_lines.specs.Line.{gap_at}
use Rattle.listing_lines.proofs.Showing.{gap-there, gap-room, shows-there, shows-gap}
use Rattle.listing_lines.proofs.show.Goals.{After-gap_length}
use Rattle.listing_lines.proofs.show.Goals as goal

-- `listing_lines::show` meets its contract. Assumes nothing.
-- the gap's end, in the code
ends : (c : After-gap_length)
    → c.args.at + c.gap_length.result ≡ c.args.at + gap_at c.args.address c.args.alignment c.args.code.now c.args.at
ends c = ap (λ (k : ℕ). c.args.at + k) c.gap_length.ensures

pub overflow_add-end : goal.overflow_add-end
overflow_add-end c =
    omega (arith, c.gap_length.ensures, gap-inside c.args.alignment (c.args.address + c.args.at) (length c.args.code.now - c.args.at), c.requires.0.inside)

pub slice_bounds-gap-end : goal.slice_bounds-gap-end
slice_bounds-gap-end c =
    omega (arith, c.gap_length.ensures, gap-inside c.args.alignment (c.args.address + c.args.at) (length c.args.code.now - c.args.at), c.requires.0.inside)

pub show_instruction-requires : goal.show_instruction-requires
show_instruction-requires c =
    (gap-there _ _ _ _ 0 _ _ c.requires.0 _ (ends (goal.at.show_instruction-requires c).After-gap_length), c.requires.1)

pub returns-then-is_multiple : goal.returns-then-is_multiple
returns-then-is_multiple c =
    shows-there _ _ _ _ _ _ _ c.requires.0 _ (ends (goal.at.returns-then-is_multiple c).After-gap_length) _ _ _ _
    (sym c.is_multiple.ensures ∙ c.if-is_multiple.true) c.show_instruction.ensures

pub put_gap-requires : goal.put_gap-requires
put_gap-requires c =
    gap-room _ _ _ _ 0 _ _ c.requires.0 _ (ends (goal.at.put_gap-requires c).After-gap_length) _ (omega (arith, c.requires.1))

pub returns : goal.returns
returns c =
    shows-gap _ _ _ _ _ _ _ c.requires.0 _ (ends (goal.at.returns c).After-gap_length) _ _ _
    (sym c.is_multiple.ensures ∙ c.if-is_multiple.false) c.put_gap.ensures
