use Rattle.listing_parts.specs.Parts.{byte_text, hex_digits}
use Rattle.listing_parts.proofs.next_byte.Goals as goal

-- `listing_parts::next_byte` meets its contract. Assumes nothing.
pub returns : goal.returns
unfolding byte_text hex_digits
returns c = rw (c.digit.ensures, c.digit-2.ensures)
