use mathlib.Core.List.{[], ◌∷◌, ◌++◌}
use native.Mathlib.Omega.{arith}
use lib.ListN.{length-append}
use Rattle.listing_parts.specs.Parts.{address_text, line_text}
use Rattle.listing_parts.proofs.Appending.{put-more, address-long}
use Rattle.listing_parts.proofs.put_line.Goals as goal

pub append-end-requires : goal.append-end-requires
append-end-requires c =
    rw c.put_address-body.auto.line
    (omega (arith, c.put_address-body.ensures.size, length-append (address_text c.args.here) (58 ∷ 32 ∷ []), address-long c.args.here))

pub append-requires : goal.append-requires
append-requires c =
    rw (c.append-end.auto.out, c.put_address-body.auto.line)
    (omega (arith, c.put_address-body.ensures.size, c.append-end.ensures.size, length-append (address_text c.args.here) (58 ∷ 32 ∷ []), address-long c.args.here))

pub returns : goal.returns
unfolding line_text
returns c =
    let head = address_text c.args.here ++ (58 ∷ 32 ∷ []) in
    let long = length-append (address_text c.args.here) (58 ∷ 32 ∷ []) in
    let few = address-long c.args.here in
    let b = put-more head c.args.shown.now _ _ _ _ _ c.put_address-body.ensures (omega arith) c.append-end.ensures in
    put-more _ (10 ∷ []) _ _ _ _ _ b (omega (arith, length-append head c.args.shown.now)) c.append.ensures
