use Rattle.lists.proofs.Below.{all_none, all_keep}
use mathlib.Core.Path.{sym}
use Rattle.validation.proofs.all_letters.Goals as goal

pub loop-x-init : goal.loop-x-init
loop-x-init c = sym (all_none _)

pub loop-x-preserved : goal.loop-x-preserved
loop-x-preserved c = all_keep _ c.loop-x.x-index c.loop-x.good c.letter_ok-good.result c.loop-x.invariant (λ _. c.letter_ok-good.ensures)
