use Prim.Native.Nat.{◌≤◌, ◌/◌}
use mathlib.Core.Path.{sym, ◌∙◌}
use native.Mathlib.Nat.{div-le_self}
use native.Mathlib.Omega.{arith}
use Rattle.printing.specs.Numerals.{base_number}
use Rattle.printing.proofs.Numerals.{room, digit-more, digit-first}
use Rattle.printing.proofs.Numeral.of.Goals as goal

pub put_before-requires : goal.put_before-requires
put_before-requires c =
    omega (arith, room (base_number c.args.base) c.loop-rest.rest c.args.n c.loop-rest.numeral c.loop-rest.invariant.1)

pub returns-then-rest-eq0 : goal.returns-then-rest-eq0
returns-then-rest-eq0 c =
    rw (c.put_before.ensures, c.digit.ensures, c.remainder.ensures)
    (digit-first c.args.base c.loop-rest.rest _ (sym c.quotient-rest.ensures ∙ c.if-rest-eq0.true) ∙ c.loop-rest.invariant.1)

pub loop-rest-preserved : goal.loop-rest-preserved
loop-rest-preserved c =
    let less : c.loop-rest.rest / base_number c.args.base ≤ c.loop-rest.rest = div-le_self c.loop-rest.rest (base_number c.args.base) in (
      rw c.quotient-rest.ensures (omega arith),
      rw (c.put_before.ensures, c.digit.ensures, c.remainder.ensures, c.quotient-rest.ensures)
          (digit-more c.args.base c.loop-rest.rest _ (omega arith) (λ e. c.if-rest-eq0.false (c.quotient-rest.ensures ∙ e)) ∙ c.loop-rest.invariant.1),
    )
