use mathlib.Core.Path.{refl}
use Rattle.listing_parts.proofs.Appending.{part-put}
use Rattle.listing_parts.proofs.append.Goals as goal

pub returns : goal.returns
returns c =
    record { size = refl; holds = part-put c.args.at _ c.args.out.now _ _ _ c.requires refl c.put_bytes.ensures }
