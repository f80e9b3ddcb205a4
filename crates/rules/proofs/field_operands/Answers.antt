use Rattle.rules.proofs.FieldOperands.{mark-none, mark-more, mark-near, mark-all}
use Rattle.format.specs.Description.{description}
use native.Mathlib.Omega.{arith}
use Prim.Native.Nat.{◌<◌, ◌≤◌}
use Rattle.rules.proofs.field_operands.Goals.{In-loop-o}
use Rattle.rules.proofs.field_operands.Goals as goal

-- the word and the next bit at operand o
near : (c : In-loop-o) → (c.loop-o.word < c.loop-o.bit) × (c.loop-o.bit ≤ 256)
near c =
    mark-near (description c.args.desc.now c.args.layout) c.args.c c.loop-o.word c.loop-o.bit c.loop-o.o
    c.loop-o.invariant (omega arith) c.requires.shaped.operands.few

pub with_bit-word-requires : goal.with_bit-word-requires
with_bit-word-requires c = let n = near (goal.at.with_bit-word-requires c).In-loop-o in omega (arith, n.0, n.1)

pub overflow_mul-bit : goal.overflow_mul-bit
overflow_mul-bit c = let n = near (goal.at.overflow_mul-bit c).In-loop-o in omega (arith, n.0, n.1)

pub loop-o-preserved : goal.loop-o-preserved
loop-o-preserved c =
    rw c.with_bit-word.ensures
    (mark-more (description c.args.desc.now c.args.layout) c.args.c c.loop-o.word c.loop-o.bit c.loop-o.o
    c.operand_at-x.result c.loop-o.invariant (omega arith) c.operand_at-x.ensures)

pub returns : goal.returns
returns c =
    mark-all (description c.args.desc.now c.args.layout) c.args.c c.loop-o.word c.loop-o.bit c.loop-o.o
    c.loop-o.invariant (omega arith)

pub loop-o-init : goal.loop-o-init
loop-o-init c = mark-none _ _
