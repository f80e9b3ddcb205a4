use mathlib.Core.List.{[]}
use mathlib.Core.Path.{ap, ◌∙◌}
use Rattle.format.proofs.Lists.{record-here}
use Rattle.format.specs.Numbers.{expression_bytes}
use Rattle.format.specs.Record.{place_at}
use Rattle.sections.proofs.expression_place.Goals as goal

pub returns : goal.returns
returns c =
    let none = place_at [] 0 in
    ap (λ p. p.at) (c.record_at.ensures none ∙ record-here place_at expression_bytes c.args.desc.now c.args.layout.expressions c.args.i none c.requires.i_lt_count)
