use mathlib.Core.Path.{sym}
use Rattle.expressions.proofs.Names.{beyond}
use Rattle.expressions.proofs.allows.Goals as goal

pub returns-then-n-ge16 : goal.returns-then-n-ge16
returns-then-n-ge16 c = sym (beyond 16 c.args.operands c.args.n c.ranges.operands.fits c.if-n-ge16.true)
