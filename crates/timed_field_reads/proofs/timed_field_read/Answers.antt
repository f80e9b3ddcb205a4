use mathlib.Core.Path.{◌∙◌}
use native.Mathlib.Omega.{arith}
use Rattle.timed_field_reads.proofs.Reading.{whole-record, cut_record}
use Rattle.timed_field_reads.proofs.timed_field_read.Goals as goal

pub returns-then-from-bytes : goal.returns-then-from-bytes
returns-then-from-bytes c =
    c.read-then-from-bytes.ensures
    ∙ whole-record c.args.bytes.now c.args.context c.args.code.now c.read.result (omega arith)
    c.read.ensures

pub returns : goal.returns
returns c =
    cut_record c.args.bytes.now c.args.context c.args.code.now (omega arith)
