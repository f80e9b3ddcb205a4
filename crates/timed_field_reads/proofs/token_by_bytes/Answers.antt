use Prim.Native.Nat.{◌-◌, ◌^◌, ◌<◌}
use mathlib.Core.Path.{◌≡◌, ◌∙◌}
use native.Mathlib.Omega.{arith}
use Rattle.fields.specs.Value.{token_byte}
use Rattle.fields.specs.Token.{number_from, token_of}
use Rattle.fields.proofs.Tokens.{token-byte}
use Rattle.timed_field_reads.proofs.ByBytes.{number-narrow, number_more}
use Rattle.timed_field_reads.proofs.token_by_bytes.Goals.{After-byte}
use Rattle.timed_field_reads.proofs.token_by_bytes.Goals as goal

pub loop-j-init : goal.loop-j-init
unfolding number_from
loop-j-init c =
    let z : c.args.field.width - c.args.field.width ≡ 0 = omega arith in
    (omega arith, rw z)

v-small : (c : After-byte) → c.loop-j.v < 2 ^ 32
v-small c =
    rw c.loop-j.invariant.1
    (number-narrow (token_byte c.args.field c.args.code.now)
    (token-byte c.args.field c.args.code.now (λ i. omega (arith, c.type_inv.code i))) _ _ (omega arith))

pub overflow_mul-v : goal.overflow_mul-v
overflow_mul-v c = omega (arith, v-small (goal.at.overflow_mul-v c).After-byte)

pub overflow_add-v : goal.overflow_add-v
overflow_add-v c = omega (arith, v-small (goal.at.overflow_add-v c).After-byte)

pub loop-j-preserved : goal.loop-j-preserved
loop-j-preserved c =
    let l = c.loop-j in (
      omega arith,
      rw (c.byte.ensures.0, l.invariant.1)
          (number_more (token_byte c.args.field c.args.code.now) l.j c.args.field.width (omega arith) l.invariant.0),
    )

pub returns : goal.returns
unfolding token_of
returns c =
    let z : c.loop-j.j ≡ 0 = omega arith in
    let w : c.args.field.width - 0 ≡ c.args.field.width = omega arith in
    rw z at c.loop-j.invariant.1 ∙ rw w
