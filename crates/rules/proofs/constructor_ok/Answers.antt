use mathlib.Core.Bool.{true, ◌&&◌}
use mathlib.Core.Path.{◌≡◌, sym, ◌∙◌}
use Rattle.lists.specs.Below.{all_below}
use Rattle.lists.proofs.Bools.{and_left}
use Rattle.format.proofs.Lists.{operands-length, pieces-length}
use Rattle.format.specs.Description.{description}
use Rattle.format.specs.Rules.{constructor_ok, operand_fits, shape_ok}
use Rattle.rules.proofs.Shape.{shape-holds}
use Rattle.rules.proofs.constructor_ok.Goals.{then-shape_ok, else-shape_ok, Then-operands_ok}
use Rattle.rules.proofs.constructor_ok.Goals as goal

pub operands_ok-requires : goal.operands_ok-requires
operands_ok-requires c =
    record { marked = c.requires.marked; shaped = rw (operands-length, pieces-length) at (shape-holds _ _ _ (sym c.shape_ok.ensures ∙ c.if-shape_ok.true)) }

-- the shape and the operands, where both hold
passed : (c : Then-operands_ok)
    → let d = description c.args.desc.now c.args.layout in
    (shape_ok d c.args.i c.args.c && all_below c.args.c.operands.count (operand_fits d c.args.c)) ≡ true
passed c =
    elim c.if-shape_ok.branch [
      | then-shape_ok w ↦
          rw (sym c.shape_ok.ensures ∙ w.if-shape_ok.true) (sym (w.value-is ∙ w.operands_ok.ensures) ∙ c.if-operands_ok.true)
      | else-shape_ok w ↦
          rw (sym c.shape_ok.ensures ∙ w.if-shape_ok.false) (sym (w.value-is ∙ w.if-shape_ok.false) ∙ c.if-operands_ok.true)
    ]

pub pieces_ok-requires : goal.pieces_ok-requires
pieces_ok-requires c =
    record {
      sections_in_bounds = c.requires.marked.room;
      shaped = rw (operands-length, pieces-length) at (shape-holds _ _ _ (and_left _ _ (passed c)));
    }

pub returns-then-operands_ok : goal.returns-then-operands_ok
unfolding constructor_ok
returns-then-operands_ok c = rw (← c.requires.is, passed (goal.at.returns-then-operands_ok c).Then-operands_ok) c.pieces_ok.ensures

pub returns-else-operands_ok : goal.returns-else-operands_ok
unfolding constructor_ok
returns-else-operands_ok c =
    elim c.if-shape_ok.branch [
      | then-shape_ok w ↦
          rw (
            ← c.requires.is,
            sym c.shape_ok.ensures ∙ w.if-shape_ok.true,
            sym (w.value-is ∙ w.operands_ok.ensures) ∙ c.if-operands_ok.false,
          )
          c.if-operands_ok.false
      | else-shape_ok w ↦ rw (← c.requires.is, sym c.shape_ok.ensures ∙ w.if-shape_ok.false) c.if-operands_ok.false
    ]
