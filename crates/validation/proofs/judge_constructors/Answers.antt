use Rattle.std.proofs.Common.{rules}
use Rattle.format.specs.Description.{no_constructor, description, constructors_of}
use Rattle.format.specs.Rules.{constructor_ok}
use Rattle.format.specs.Check.{bad_constructor}
use Rattle.validation.proofs.judge_constructors.Goals as goal

pub returns : goal.returns
unfolding bad_constructor constructors_of
returns c = c.judge.ensures (λ i _. constructor_ok (description c.args.desc.now c.args.layout) i) no_constructor (λ i r h p. search rules)
