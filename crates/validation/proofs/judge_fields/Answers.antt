use Rattle.std.proofs.Common.{rules}
use Rattle.format.proofs.Lists.{names-length}
use Rattle.format.specs.Description.{no_field, fields_of}
use Rattle.format.specs.Rules.{field_ok}
use Rattle.format.specs.Check.{bad_field}
use Rattle.validation.proofs.judge_fields.Goals as goal

pub returns : goal.returns
unfolding bad_field fields_of
returns c = rw names-length (c.judge.ensures (λ _. field_ok c.args.layout.names.count) no_field (λ i r h p. search rules))
