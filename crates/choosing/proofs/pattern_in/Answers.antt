use mathlib.Core.Path.{◌∙◌}
use Rattle.choosing.proofs.Settling.{pattern-here}
use Rattle.choosing.proofs.pattern_in.Goals as goal

pub returns : goal.returns
returns c =
    c.pattern_at.ensures ∙ pattern-here c.args.desc.now c.args.constructors c.args.first c.args.j c.requires.j_bound
