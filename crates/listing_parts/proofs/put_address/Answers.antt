use mathlib.Core.List.{[], ◌∷◌}
use mathlib.Core.Path.{◌≡◌, ap, ◌∙◌}
use native.Mathlib.Omega.{arith}
use lib.ListN.{length}
use Rattle.printing.specs.Numerals.{digits_of}
use Rattle.printing.proofs.Numerals.{digits-length}
use Rattle.listing_parts.proofs.Appending.{put_first, put-more, short-long, address-few, address-many}
use borrow.Author.Rules.{rules}
use Rattle.listing_parts.proofs.put_address.Goals as goal

-- `listing_parts::put_address` meets its contract. Assumes nothing.
pub returns-then-here-lt4294967296 : goal.returns-then-here-lt4294967296
returns-then-here-lt4294967296 c =
    let few = address-few c.args.here c.if-here-lt4294967296.true in
    let long : length c.short_address-head.result ≡ 10 = ap length c.short_address-head.ensures ∙ short-long c.args.here in
    rw (few, ← c.short_address-head.ensures) (put_first c.short_address-head.result c.args.line.now _ _ (omega arith) c.append.ensures)

pub append-requires-2 : goal.append-requires-2
append-requires-2 c =
    rw c.append_number-end.auto.out (omega (arith, c.append_number-end.ensures.size, digits-length 16 c.args.here))

pub returns : goal.returns
returns c =
    let digits = digits-length 16 c.args.here in
    let many = address-many c.args.here c.if-here-lt4294967296.false (search rules) in
    rw many
    (put-more (digits_of 16 c.args.here) (58 ∷ 32 ∷ []) _ _ _ _ _
    (put_first (digits_of 16 c.args.here) c.args.line.now _ _ (omega arith) c.append_number-end.ensures) (omega arith)
    c.append-2.ensures)
