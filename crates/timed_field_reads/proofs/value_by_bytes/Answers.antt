use native.Mathlib.Omega.{arith}
use Rattle.fields.proofs.Tokens.{token-value}
use Rattle.timed_field_reads.proofs.value_by_bytes.Goals as goal

pub returns-then-field-eq0 : goal.returns-then-field-eq0
returns-then-field-eq0 c =
    rw (c.cut.ensures, c.token_by_bytes.ensures)
    (token-value c.args.field c.args.code.now (λ i. omega (arith, c.type_inv.code i)) c.args.context c.requires.readable
    c.if-field-eq0.true)
