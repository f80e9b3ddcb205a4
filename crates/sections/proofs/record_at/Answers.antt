use mathlib.Core.Path.{ap, ◌∙◌}
use Rattle.sections.proofs.Records.{record_is}
use Rattle.sections.proofs.record_at.Goals as goal

pub returns : goal.returns
returns g c = λ none.
    ap (λ r. r.value) c.read.ensures
    ∙ rw c.BYTES.ensures (record_is g.T.Record.reading g.T.Record.BYTES c.args.desc.now c.args.section c.args.i none c.requires.i_lt_count)
