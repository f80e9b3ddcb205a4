use Rattle.std.proofs.Common.{rules}
use Rattle.format.proofs.Lists.{text-length}
use Rattle.format.specs.Description.{no_name, names_of}
use Rattle.format.specs.Rules.{name_ok}
use Rattle.format.specs.Check.{bad_name}
use Rattle.validation.proofs.judge_names.Goals as goal

pub returns : goal.returns
unfolding bad_name names_of
returns c = rw text-length (c.judge.ensures (λ _. name_ok c.args.layout.text.count) no_name (λ i r h p. search rules))
