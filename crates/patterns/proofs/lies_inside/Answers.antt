use borrow.Author.Rules.{rules}
use Rattle.patterns.proofs.Words.{inside_is}
use Rattle.patterns.proofs.lies_inside.Goals as goal

pub returns : goal.returns
returns c =
    inside_is c.args.a c.args.b
    (record { mask = search rules; value = search rules; contextmask = search rules; contextvalue = search rules })
    (record { mask = search rules; value = search rules; contextmask = search rules; contextvalue = search rules })
