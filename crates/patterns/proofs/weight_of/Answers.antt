use Rattle.patterns.proofs.Words.{weight_is}
use borrow.Author.Rules.{rules}
use Rattle.patterns.proofs.weight_of.Goals as goal

pub returns : goal.returns
returns c =
    weight_is c.args.p
    (record { mask = search rules; value = search rules; contextmask = search rules; contextvalue = search rules })
