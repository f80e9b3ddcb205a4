use borrow.Author.Rules.{rules}
use Rattle.patterns.proofs.Words.{overlap-is}
use Rattle.patterns.proofs.overlaps.Goals as goal

pub returns : goal.returns
returns c =
    overlap-is c.args.a c.args.b
    (record { mask = search rules; value = search rules; contextmask = search rules; contextvalue = search rules })
    (record { mask = search rules; value = search rules; contextmask = search rules; contextvalue = search rules })
