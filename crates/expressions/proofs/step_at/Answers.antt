use Rattle.expressions.proofs.Records.{step-here}
use Rattle.expressions.proofs.step_at.Goals as goal

pub returns : goal.returns
returns c =
    rw (c.quad.ensures, c.from.ensures, c.from-2.ensures) (step-here c.args.s.now c.args.at c.args.i c.requires.1)
