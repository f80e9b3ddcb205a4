use Rattle.listing_parts.specs.Parts.{hex_digits}
use Rattle.listing_parts.proofs.short_address.Goals as goal

pub returns : goal.returns
unfolding hex_digits
returns c =
    rw (c.digit.ensures, c.digit-2.ensures, c.digit-3.ensures, c.digit-4.ensures, c.digit-5.ensures, c.digit-6.ensures, c.digit-7.ensures, c.digit-8.ensures)
