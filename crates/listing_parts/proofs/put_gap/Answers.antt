use Prim.Native.Nat.{◌-◌}
use native.Mathlib.Omega.{arith}
use lib.ListN.{length, drop, length-drop}
use lib.Seq.{take_all}
use Rattle.listing_parts.proofs.Gaps.{gap-put}
use Rattle.listing_parts.proofs.put_gap.Goals as goal

-- `listing_parts::put_gap` meets its contract. Assumes nothing.
pub returns : goal.returns
returns c =
    let bytes = c.args.bytes.now in
    let all = take_all (length bytes - 1) (drop 1 bytes) (omega (arith, length-drop 1 bytes)) in
    gap-put bytes c.args.out.now _ _ c.first_byte-text.result _ _ c.requires c.first_byte-text.ensures c.append-end.ensures (rw all at c.append_bytes.ensures)
