use mathlib.Core.Path.{◌∙◌}
use native.Mathlib.Omega.{arith}
use Rattle.fields.proofs.Tokens.{token-value, context-value}
use Rattle.fields.proofs.value.Goals as goal

pub returns-then-field-eq0 : goal.returns-then-field-eq0
returns-then-field-eq0 c =
    rw (c.cut.ensures, c.token.ensures)
    (token-value c.args.field c.args.code.now (λ i. omega (arith, c.type_inv.code i)) c.args.context c.requires.readable
    c.if-field-eq0.true)

pub returns : goal.returns
returns c =
    c.cut-2.ensures
    ∙ context-value c.args.field c.args.code.now (λ i. omega (arith, c.type_inv.code i)) c.args.context
    c.requires.readable c.if-field-eq0.false
