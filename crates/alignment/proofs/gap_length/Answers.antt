use native.Mathlib.Omega.{arith}
use Rattle.alignment.specs.Alignment.{gap_length}
use Rattle.alignment.proofs.Laws.{mask-remainder}
use Rattle.alignment.proofs.gap_length.Goals as goal

pub returns : goal.returns
unfolding gap_length
returns c = omega (arith, mask-remainder c.args.n c.args.x c.requires)
