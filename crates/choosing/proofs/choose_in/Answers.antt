use Rattle.std.specs.Prelude.{Err}
use Rattle.choosing.proofs.Settling.{patterns-small, cut_short, settled}
use Rattle.choosing.specs.Patterns.{section_as, pattern_in}
use borrow.Author.Rules.{rules}
use mathlib.Core.Path.{◌≡◌}
use native.Mathlib.Omega.{arith}
use Rattle.choosing.proofs.choose_in.Goals as goal

pub returns-in_err-best : goal.returns-in_err-best
returns-in_err-best c =
    let e : c.from_residual.result ≡ Err c.in_err-best.field-0.0 = search rules in
    let t = c.in_err-best.ensures in
    rw (e, t.0)
    (cut_short (pattern_in c.args.desc.now (section_as c.args.start c.args.records) c.args.first) c.args.count c.args.code.now c.args.context
    c.input_of-input.result
    (patterns-small c.args.desc.now (λ i. omega (arith, c.type_inv.desc i)) (section_as c.args.start c.args.records) c.args.first)
    (λ i. omega (arith, c.type_inv.code i)) c.input_of-input.ensures
    t.1)

pub returns : goal.returns
returns c =
    settled (pattern_in c.args.desc.now (section_as c.args.start c.args.records) c.args.first) c.args.count c.args.code.now c.args.context
    c.input_of-input.result
    (patterns-small c.args.desc.now (λ i. omega (arith, c.type_inv.desc i)) (section_as c.args.start c.args.records) c.args.first)
    (λ i. omega (arith, c.type_inv.code i))
    c.input_of-input.ensures c.in_ok-best.ensures.0 c.settle.result c.settle.ensures
