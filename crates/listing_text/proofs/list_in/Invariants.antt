use Prim.Native.Nat.{◌-◌}
use mathlib.Core.Path.{◌≡◌}
use lib.ListN.{length}
use Rattle.listing_parts.specs.Parts.{line_bytes}
use Rattle.listing_text.proofs.Turns.{LoopState}
use Rattle.listing_text.proofs.list_in.Given as goal

-- `listing_text::list_in` meets its contract. Assumes nothing.
abbrev pub invariant-loop-at : goal.invariant-loop-at
invariant-loop-at l =
    LoopState l.desc l.initial.fixed l.context l.address l.alignment l.code l.initial.out l.from l.fixed l.out l.at l.bytes l.lines × (length l.line ≡ line_bytes)

abbrev pub decreases-loop-at : goal.decreases-loop-at
decreases-loop-at l = length l.code - l.at
