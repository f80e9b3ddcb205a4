use Rattle.patterns.proofs.Bytes.{shifted, whole-input, few-input}
use lib.ListN.{length}
use Rattle.patterns.proofs.input_of.Goals as goal

pub returns-then-n-ge8 : goal.returns-then-n-ge8
returns-then-n-ge8 c =
    rw c.quad.ensures (whole-input c.args.code.now c.args.context c.if-n-ge8.true)

pub returns : goal.returns
returns c =
    rw (shifted (length c.args.code.now) c.if-n-ge8.false, c.padded.ensures)
    (few-input c.args.code.now c.args.context c.if-n-ge8.false)
