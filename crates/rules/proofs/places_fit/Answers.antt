use mathlib.Core.Path.{refl, ◌∙◌}
use native.Mathlib.Omega.{arith}
use Rattle.std.proofs.Common.{rules}
use Rattle.std.proofs.lemmas.Iterator.{YieldsList-from_range}
use Rattle.std.proofs.lemmas.Iterator.Search.{all_from_yields_List}
use Rattle.format.specs.Description.{description}
use Rattle.rules.specs.Places.{place_fits}
use Rattle.rules.proofs.Ranges.{all_in_range}
use Rattle.rules.proofs.places_fit.Goals as goal

pub returns : goal.returns
returns c =
    let n = c.args.c.operands.count in
    let ok = place_fits (description c.args.desc.now c.args.layout) c.args.c in
    all_from_yields_List ok _ _ c.all.result c.all.ensures.ran (YieldsList-from_range 0 n n refl (omega arith)) (λ x b q k. search rules)
    ∙ all_in_range ok n
