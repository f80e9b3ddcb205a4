use Prim.Native.Nat.{ℕ}
use mathlib.Core.Bool.{Bool}
use Rattle.std.proofs.Common.{rules}
use Rattle.format.proofs.Lists.{expressions-length, expression-here, records-length}
use Rattle.format.specs.Numbers.{expression_bytes}
use Rattle.format.specs.Record.{place_at}
use Rattle.format.specs.Description.{expressions_of}
use Rattle.format.specs.Expression.{no_expression, writes_expression}
use Rattle.format.specs.Check.{bad_expression}
use lib.ListN.{get_or}
use Rattle.validation.proofs.judge_expressions.Goals as goal

pub returns : goal.returns
unfolding bad_expression
returns c =
    let b = c.args.desc.now in
    let l = c.args.layout in
    let good : ℕ → Bool = λ i. writes_expression (get_or (expressions_of b l) i no_expression) in
    let e = c.judge.ensures (λ i _. good i) (record { at = 0 }) (λ i r h p. rw (expression-here b l i h) (search rules)) in
    rw expressions-length (rw (records-length place_at expression_bytes b l.expressions) at e)
