use Rattle.rules.proofs.FieldOperands.{fits-other, fits-missing, fits-unwritten, fits-named}
use Rattle.format.specs.Description.{description, expressions_of}
use Rattle.format.specs.Expression.{expression_at, no_expression, writes_expression, names_only}
use Rattle.bits.specs.Bits.{is_set}
use lib.ListN.{get_or}
use Rattle.format.proofs.Lists.{expressions-length, expression-here}
use borrow.Author.Tests.{eq-eqb, ne_eqb}
use native.Mathlib.Omega.{arith}
use mathlib.Core.Path.{◌≡◌, sym, ap, ◌∙◌}
use Rattle.rules.proofs.expression_fits.Goals.{After-expression_place-at}
use Rattle.rules.proofs.expression_fits.Goals as goal

pub returns-then-x-ne2 : goal.returns-then-x-ne2
returns-then-x-ne2 c = sym (fits-other (description _ _) c.args.c c.args.x (ne_eqb c.args.x.kind 2 c.if-x-ne2.true))

pub returns-then-layout-index : goal.returns-then-layout-index
returns-then-layout-index c =
    sym (fits-missing (description c.args.desc.now c.args.layout) c.args.c c.args.x
    (rw (expressions-length c.args.desc.now c.args.layout) c.if-layout-index.true))

-- the record that is read is the one that the operand names
named-is : (c : After-expression_place-at)
    → expression_at c.args.desc.now c.expression_place-at.result
    ≡ get_or (expressions_of c.args.desc.now c.args.layout)
    c.args.x.index no_expression
named-is c =
    ap (expression_at c.args.desc.now) c.expression_place-at.ensures
    ∙ sym (expression-here c.args.desc.now c.args.layout c.args.x.index (omega arith))

pub writes-requires : goal.writes-requires
writes-requires c =
    let room = c.requires.sections_in_bounds.expressions in
    omega (arith, room, c.expression_place-at.ensures)

pub returns-then-not-writes : goal.returns-then-not-writes
returns-then-not-writes c =
    sym (fits-unwritten (description c.args.desc.now c.args.layout) c.args.c c.args.x
    (ap writes_expression (sym (named-is (goal.at.returns-then-not-writes c).After-expression_place-at)) ∙ (sym c.writes.ensures ∙ c.if-not-writes.true)))

pub returns : goal.returns
returns c =
    c.names_only.ensures
    ∙ (ap (names_only (is_set c.field_operands.result)) (named-is (goal.at.returns c).After-expression_place-at)
    ∙ fits-named (description c.args.desc.now c.args.layout) c.args.c c.args.x c.field_operands.result
    (eq-eqb c.args.x.kind 2 c.if-x-ne2.false)
    (ap writes_expression (sym (named-is (goal.at.returns c).After-expression_place-at)) ∙ (sym c.writes.ensures ∙ c.if-not-writes.false))
    c.field_operands.ensures)
