use native.Mathlib.Omega.{arith}
use Rattle.expressions.proofs.Records.{count-here}
use Rattle.expressions.proofs.count_at.Goals as goal

pub returns : goal.returns
returns c = omega (arith, count-here c.args.s.now c.args.at)
