use Prim.Native.Nat.{ℕ}
use mathlib.Core.Path.{refl, sym, ◌∙◌}
use native.Mathlib.Omega.{arith}
use Rattle.std.proofs.Common.{rules}
use Rattle.std.proofs.lemmas.Iterator.{YieldsList-from_range}
use Rattle.std.proofs.lemmas.Iterator.Search.{all_from_yields_List}
use Rattle.lists.proofs.Below.{all_of}
use Rattle.format.proofs.Lists.{expressions-length}
use Rattle.format.specs.Description.{description}
use Rattle.format.specs.Rules.{operand_of, expression_fits}
use Rattle.rules.proofs.FieldOperands.{fits-missing}
use Rattle.rules.proofs.Ranges.{all_in_range}
use Rattle.rules.proofs.expressions_fit.Goals as goal

pub returns-then-layout-eq0 : goal.returns-then-layout-eq0
returns-then-layout-eq0 c =
    sym (all_of _ c.args.c.operands.count (λ o h. fits-missing (description c.args.desc.now c.args.layout) c.args.c _
    (rw (expressions-length c.args.desc.now c.args.layout) (omega (arith, c.if-layout-eq0.true)))))

pub returns : goal.returns
returns c =
    let n = c.args.c.operands.count in
    let d = description c.args.desc.now c.args.layout in
    let ok = λ (o : ℕ). expression_fits d c.args.c (operand_of d c.args.c o) in
    all_from_yields_List ok _ _ c.all.result c.all.ensures.ran (YieldsList-from_range 0 n n refl (omega arith)) (λ x b q k. search rules)
    ∙ all_in_range ok n
