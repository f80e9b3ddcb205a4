use Rattle.format.proofs.Lists.{pieces-length}
use Rattle.lists.proofs.Below.{all_none, all_keep}
use native.Mathlib.Omega.{arith}
use mathlib.Core.Path.{◌≡◌, sym, ◌∙◌}
use Rattle.validation.proofs.all_pieces.Goals as goal

pub loop-i-init : goal.loop-i-init
loop-i-init c = sym (all_none _)

pub loop-i-preserved : goal.loop-i-preserved
loop-i-preserved c =
    all_keep _ c.loop-i.i c.loop-i.good c.piece_ok-good.result c.loop-i.invariant (λ _. c.piece_ok-good.ensures ∙ rw c.piece_at-p.ensures)

pub returns : goal.returns
returns c =
    let s : c.loop-i.i ≡ c.args.layout.pieces.count = omega arith in
    rw pieces-length (rw s at c.loop-i.invariant)
