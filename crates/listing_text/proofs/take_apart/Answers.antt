use Rattle.listing_text.proofs.Splitting.{split-none, split_at}
use Rattle.listing_text.proofs.take_apart.Goals as goal

-- `listing_text::take_apart` meets its contract. Assumes nothing.
pub returns-then-n-lt2 : goal.returns-then-n-lt2
returns-then-n-lt2 c = split-none _ c.if-n-lt2.true

pub returns : goal.returns
returns c = split_at _ _ _ _ c.if-n-lt2.false c.word-long.ensures c.min-end.ensures c.min-last.ensures
