use native.Mathlib.Omega.{arith}
use Rattle.listing_parts.proofs.Gaps.{behind-none, behind-end, behind-next}
use Rattle.listing_parts.proofs.append_bytes.Goals as goal

pub loop-byte-init : goal.loop-byte-init
loop-byte-init c = behind-none _ _ _ c.requires

pub append-end-requires : goal.append-end-requires
append-end-requires c =
    omega (arith, behind-end _ _ _ _ _ _ c.loop-byte.invariant, c.loop-byte.invariant.room, c.loop-byte.invariant.kept)

pub loop-byte-preserved : goal.loop-byte-preserved
loop-byte-preserved c =
    behind-next _ _ _ _ _ _ c.loop-byte.invariant _ _ _ c.loop-byte-test.true c.next_byte-text.ensures c.append-end.ensures c.append-end.auto.out
