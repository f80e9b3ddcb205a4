use Rattle.listing_parts.proofs.Made.{fault-made}
use Rattle.listing_parts.proofs.fault_line.Goals as goal

pub returns : goal.returns
returns c = fault-made _ _ _ _ _ c.first_value-first.ensures c.second_value-second.ensures c.put_fault-size.ensures
