use Rattle.format.specs.Rules.{letter_ok}
use Rattle.format.specs.Bytes.{byte_at}
use Rattle.lists.specs.Below.{all_below}
use mathlib.Core.Path.{◌≡◌}
use Rattle.validation.proofs.all_letters.Given as goal

abbrev pub invariant-loop-x : goal.invariant-loop-x
invariant-loop-x l = l.good ≡ all_below l.x-index (λ i. letter_ok (byte_at l.text i))
