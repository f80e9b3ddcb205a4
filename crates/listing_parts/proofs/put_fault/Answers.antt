use native.Mathlib.Omega.{arith}
use Rattle.printing.specs.Numerals.{digits_of}
use Rattle.printing.proofs.Numerals.{digits-length}
use Rattle.listing_parts.specs.Parts.{malformed_text, malformed_word}
use Rattle.listing_parts.proofs.Appending.{put_first, put-more}
use Rattle.listing_parts.proofs.put_fault.Goals as goal

pub append-c-requires : goal.append-c-requires
append-c-requires c =
    rw (c.append_number-b.auto.out, c.append-a.auto.out) (omega (arith, c.requires, c.append-a.ensures.size, c.append_number-b.ensures.size, digits-length 10 c.args.first))

pub append_number-d-requires : goal.append_number-d-requires
append_number-d-requires c =
    rw (c.append-c.auto.out, c.append_number-b.auto.out, c.append-a.auto.out) (omega (arith, c.requires, c.append-a.ensures.size, c.append_number-b.ensures.size, c.append-c.ensures.size, digits-length 10 c.args.first))

pub append-requires : goal.append-requires
append-requires c =
    rw (c.append_number-d.auto.out, c.append-c.auto.out, c.append_number-b.auto.out, c.append-a.auto.out)
    (omega (arith, c.requires, c.append-a.ensures.size, c.append_number-b.ensures.size, c.append-c.ensures.size, c.append_number-d.ensures.size, digits-length 10 c.args.first, digits-length 10 c.args.second))

pub returns : goal.returns
unfolding malformed_text
returns c =
    let first = digits-length 10 c.args.first in
    let second = digits-length 10 c.args.second in
    let a = put_first malformed_word c.args.line.now _ _ (omega (arith, c.requires)) c.append-a.ensures in
    let b = put-more _ (digits_of 10 c.args.first) _ _ _ _ _ a (omega (arith, c.requires)) c.append_number-b.ensures in
    let d = put-more _ _ _ _ _ _ _ b (omega (arith, c.requires, b.size, c.append_number-b.ensures.size, c.append-a.ensures.size)) c.append-c.ensures in
    let e = put-more _ (digits_of 10 c.args.second) _ _ _ _ _ d (omega (arith, c.requires, d.size, c.append-c.ensures.size, c.append_number-b.ensures.size, c.append-a.ensures.size)) c.append_number-d.ensures in
    put-more _ _ _ _ _ _ _ e (omega (arith, c.requires, e.size, c.append_number-d.ensures.size, c.append-c.ensures.size, c.append_number-b.ensures.size, c.append-a.ensures.size)) c.append.ensures
