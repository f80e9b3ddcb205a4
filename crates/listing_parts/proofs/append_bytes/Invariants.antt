use Rattle.listing_parts.proofs.Gaps.{Behind}
use Rattle.listing_parts.proofs.append_bytes.Given as goal

-- `listing_parts::append_bytes` meets its contract. Assumes nothing.
abbrev pub invariant-loop-byte : goal.invariant-loop-byte
invariant-loop-byte l = Behind l.bytes l.at l.initial.out l.out l.end l.byte-index
