use mathlib.Core.Path.{◌∙◌}
use native.Mathlib.Omega.{arith}
use lib.ListN.{get_or}
use Rattle.fields.specs.Token.{number_from}
use Rattle.fields.proofs.Tokens.{four_bytes, little-token}
use Rattle.fields.proofs.little.Goals as goal

pub returns-in-1 : goal.returns-in-1
unfolding number_from
returns-in-1 c =
    c.joined.ensures ∙ little-token c.args.field c.args.code.now 1 (omega arith) c.requires.1

pub returns-in-2 : goal.returns-in-2
unfolding number_from
returns-in-2 c =
    c.joined-in-2.ensures ∙ little-token c.args.field c.args.code.now 2 (omega arith) c.requires.1

pub returns-in-3 : goal.returns-in-3
unfolding number_from
returns-in-3 c =
    c.joined-in-3.ensures ∙ little-token c.args.field c.args.code.now 3 (omega arith) c.requires.1

pub returns-in_default : goal.returns-in_default
returns-in_default c =
    c.joined-in_default.ensures
    ∙ (four_bytes (λ j. get_or c.args.code.now j 0) ∙ little-token c.args.field c.args.code.now 4 (omega arith) c.requires.1)
